use Rattle.std.proofs.Common.{◌≡◌, Err, codes, drop, false, refl, sym, ◌∙◌}
use Rattle.std.proofs.lemmas.Result.{err_from_is_err_and}
use Rattle.c25_meaning_assembly.specs.Sections.{register_names, value_of_number}
use Rattle.c25_phases.specs.View.{progress_of}
use Rattle.c25_phases.proofs.RegisterNames.{first_new, full_undone, one_less, registers_refused, some_stand}
use Rattle.c25_phases.proofs.progress.Progress.name_registers.Goals as goal

pub returns-then-has_register-clause-told : goal.returns-then-has_register-clause-told
returns-then-has_register-clause-told c = registers_refused (progress_of c.args.self.now) c.if-self.false (sym c.has_register.ensures ∙ c.if-has_register.true)

pub returns-in_err-define_register-2-clause-undone : goal.returns-in_err-define_register-2-clause-undone
returns-in_err-define_register-2-clause-undone c =
    let n0 = c.args.self.now.symbols.entries in
    let s0 : some_stand n0 register_names ≡ false = sym c.has_register.ensures ∙ c.if-has_register.false in
    let n1 = c.define_register.new.self.symbols.entries in
    let s1 : some_stand n1 (drop 1 register_names) ≡ false = one_less n0 n1 (codes "DRR", value_of_number 0) (drop 1 register_names) s0 refl c.in_ok-define_register.ensures.names in
    let p = err_from_is_err_and c.from_residual-in_err-define_register-2.result c.from_residual-in_err-define_register-2.ensures.1 in
    rw (p.1, p.2) (full_undone (progress_of c.args.self.now) (progress_of c.define_register-2.new.self) (Err c.in_err-define_register-2.field-0.0)
    (c.in_err-define_register-2.ensures.anew (first_new n1 (codes "DXR", value_of_number 1) (drop 2 register_names) s1)))

pub returns-in_err-define_register-3-clause-undone : goal.returns-in_err-define_register-3-clause-undone
returns-in_err-define_register-3-clause-undone c =
    let n0 = c.args.self.now.symbols.entries in
    let s0 : some_stand n0 register_names ≡ false = sym c.has_register.ensures ∙ c.if-has_register.false in
    let n1 = c.define_register.new.self.symbols.entries in
    let s1 : some_stand n1 (drop 1 register_names) ≡ false = one_less n0 n1 (codes "DRR", value_of_number 0) (drop 1 register_names) s0 refl c.in_ok-define_register.ensures.names in
    let n2 = c.define_register-2.new.self.symbols.entries in
    let s2 : some_stand n2 (drop 2 register_names) ≡ false = one_less n1 n2 (codes "DXR", value_of_number 1) (drop 2 register_names) s1 refl c.in_ok-define_register-2.ensures.names in
    let p = err_from_is_err_and c.from_residual-in_err-define_register-3.result c.from_residual-in_err-define_register-3.ensures.1 in
    rw (p.1, p.2) (full_undone (progress_of c.args.self.now) (progress_of c.define_register-3.new.self) (Err c.in_err-define_register-3.field-0.0)
    (c.in_err-define_register-3.ensures.anew (first_new n2 (codes "TIM", value_of_number 2) (drop 3 register_names) s2)))

pub returns-in_err-define_register-4-clause-undone : goal.returns-in_err-define_register-4-clause-undone
returns-in_err-define_register-4-clause-undone c =
    let n0 = c.args.self.now.symbols.entries in
    let s0 : some_stand n0 register_names ≡ false = sym c.has_register.ensures ∙ c.if-has_register.false in
    let n1 = c.define_register.new.self.symbols.entries in
    let s1 : some_stand n1 (drop 1 register_names) ≡ false = one_less n0 n1 (codes "DRR", value_of_number 0) (drop 1 register_names) s0 refl c.in_ok-define_register.ensures.names in
    let n2 = c.define_register-2.new.self.symbols.entries in
    let s2 : some_stand n2 (drop 2 register_names) ≡ false = one_less n1 n2 (codes "DXR", value_of_number 1) (drop 2 register_names) s1 refl c.in_ok-define_register-2.ensures.names in
    let n3 = c.define_register-3.new.self.symbols.entries in
    let s3 : some_stand n3 (drop 3 register_names) ≡ false = one_less n2 n3 (codes "TIM", value_of_number 2) (drop 3 register_names) s2 refl c.in_ok-define_register-3.ensures.names in
    let p = err_from_is_err_and c.from_residual-in_err-define_register-4.result c.from_residual-in_err-define_register-4.ensures.1 in
    rw (p.1, p.2) (full_undone (progress_of c.args.self.now) (progress_of c.define_register-4.new.self) (Err c.in_err-define_register-4.field-0.0)
    (c.in_err-define_register-4.ensures.anew (first_new n3 (codes "PRD", value_of_number 3) (drop 4 register_names) s3)))

pub returns-in_err-define_register-5-clause-undone : goal.returns-in_err-define_register-5-clause-undone
returns-in_err-define_register-5-clause-undone c =
    let n0 = c.args.self.now.symbols.entries in
    let s0 : some_stand n0 register_names ≡ false = sym c.has_register.ensures ∙ c.if-has_register.false in
    let n1 = c.define_register.new.self.symbols.entries in
    let s1 : some_stand n1 (drop 1 register_names) ≡ false = one_less n0 n1 (codes "DRR", value_of_number 0) (drop 1 register_names) s0 refl c.in_ok-define_register.ensures.names in
    let n2 = c.define_register-2.new.self.symbols.entries in
    let s2 : some_stand n2 (drop 2 register_names) ≡ false = one_less n1 n2 (codes "DXR", value_of_number 1) (drop 2 register_names) s1 refl c.in_ok-define_register-2.ensures.names in
    let n3 = c.define_register-3.new.self.symbols.entries in
    let s3 : some_stand n3 (drop 3 register_names) ≡ false = one_less n2 n3 (codes "TIM", value_of_number 2) (drop 3 register_names) s2 refl c.in_ok-define_register-3.ensures.names in
    let n4 = c.define_register-4.new.self.symbols.entries in
    let s4 : some_stand n4 (drop 4 register_names) ≡ false = one_less n3 n4 (codes "PRD", value_of_number 3) (drop 4 register_names) s3 refl c.in_ok-define_register-4.ensures.names in
    let p = err_from_is_err_and c.from_residual-in_err-define_register-5.result c.from_residual-in_err-define_register-5.ensures.1 in
    rw (p.1, p.2) (full_undone (progress_of c.args.self.now) (progress_of c.define_register-5.new.self) (Err c.in_err-define_register-5.field-0.0)
    (c.in_err-define_register-5.ensures.anew (first_new n4 (codes "IMR", value_of_number 4) (drop 5 register_names) s4)))

pub returns-clause-undone : goal.returns-clause-undone
returns-clause-undone c =
    let n0 = c.args.self.now.symbols.entries in
    let s0 : some_stand n0 register_names ≡ false = sym c.has_register.ensures ∙ c.if-has_register.false in
    let n1 = c.define_register.new.self.symbols.entries in
    let s1 : some_stand n1 (drop 1 register_names) ≡ false = one_less n0 n1 (codes "DRR", value_of_number 0) (drop 1 register_names) s0 refl c.in_ok-define_register.ensures.names in
    let n2 = c.define_register-2.new.self.symbols.entries in
    let s2 : some_stand n2 (drop 2 register_names) ≡ false = one_less n1 n2 (codes "DXR", value_of_number 1) (drop 2 register_names) s1 refl c.in_ok-define_register-2.ensures.names in
    let n3 = c.define_register-3.new.self.symbols.entries in
    let s3 : some_stand n3 (drop 3 register_names) ≡ false = one_less n2 n3 (codes "TIM", value_of_number 2) (drop 3 register_names) s2 refl c.in_ok-define_register-3.ensures.names in
    let n4 = c.define_register-4.new.self.symbols.entries in
    let s4 : some_stand n4 (drop 4 register_names) ≡ false = one_less n3 n4 (codes "PRD", value_of_number 3) (drop 4 register_names) s3 refl c.in_ok-define_register-4.ensures.names in
    let n5 = c.define_register-5.new.self.symbols.entries in
    let s5 : some_stand n5 (drop 5 register_names) ≡ false = one_less n4 n5 (codes "IMR", value_of_number 4) (drop 5 register_names) s4 refl c.in_ok-define_register-5.ensures.names in
    full_undone (progress_of c.args.self.now) (progress_of c.define_register-6.new.self) c.define_register-6.result
    (c.define_register-6.ensures.anew (first_new n5 (codes "GREG", value_of_number 5) (drop 6 register_names) s5))
