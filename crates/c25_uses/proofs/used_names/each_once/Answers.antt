use denote.Ref.{Bor}
use Rattle.std.proofs.Common.{◌+◌, ◌||◌, ℕ, List, [], drop, get_or, ap, sym, ◌∙◌}
use Rattle.std.proofs.lemmas.List.{drop_more}
use Rattle.c25_meaning_assembly.specs.Sections.{is_in}
use Rattle.c25_uses.specs.UsedNames.{bytes_of}
use Rattle.c25_uses.proofs.Keys.{inserted}
use Rattle.c25_uses.proofs.used_names.each_once.Goals as goal

pub loop-name-preserved : goal.loop-name-preserved
loop-name-preserved c =
    let d : Bor (List ℕ) = record { ref_ptr = (0, 0); now = [] } in
    let names = c.args.names.now in
    let i = c.loop-name.name-index in
    let ks = c.loop-name.once.keys in
    λ name.
    inserted ks c.insert.new.self.keys (get_or names i d) (bytes_of (drop (i + 1) names)) name c.in_ok-insert.ensures.keys
    ∙ ap (λ rest. is_in (bytes_of ks) name || is_in (bytes_of rest) name) (sym (drop_more names i d c.loop-name-test.true))
    ∙ c.loop-name.invariant name
