-- What is fetched at PC is what the processor reads there, whatever mark says that an instruction is there.
use Rattle.std.proofs.Common.{◌≡◌, ◌⊎◌, ℕ, ◌+◌, ◌%◌, ◌^◌, ◌≤◌, Bool, true, false, ◌&&◌, if◌then◌else◌, List, [], ◌∷◌, Option, None, Some, refl, sym, ap, ◌∙◌, subst, arith, inl, inr}
use Rattle.std.specs.Prelude.{take, ◌==◌}
use Rattle.std.specs.Option.{option_and_then}
use Rattle.std.proofs.lemmas.Bool.{and_parts, eqb-true}
use Rattle.std.proofs.lemmas.Bool.Decides.{nat_tests}
use Rattle.c25_meaning_image.specs.declared.mark.Mark.{Mark}
use Rattle.c25_meaning_image.specs.declared.mark.RunMark.{RunMark}
use Rattle.c25_meaning_image.specs.Marks.{first_at, run_at}
use Rattle.c25_meaning_instructions.specs.declared.insn.Insn.{Insn}
use Rattle.c25_meaning_instructions.specs.declared.insn.Insn.TheVariants as insn
use Rattle.c25_meaning_instructions.specs.Table.{Reads, size_of}
use Rattle.c25_meaning_instructions.proofs.Readings.{one_reading}
use Rattle.c25_meaning_processor.specs.State.{World, b0_word, holds, in_program_b0, program_at, under}
use Rattle.c25_meaning_processor.specs.Step.{clear_of_b0}
use Rattle.c25_meaning_processor.specs.WordStep.{IsAt, IsCopy, IsFetched, IsFound, mark_found}
use Rattle.c25_image_laws.proofs.Marked.{program_marked, world_marked}

-- an instruction has one word or two
sizes : (i : Insn) → (size_of i ≡ 1) ⊎ (size_of i ≡ 2)
sizes (insn.Long name number high) = inr refl
sizes (insn.LongMem name word a) = inr refl
sizes (insn.Jump name word change next) = inr refl
sizes i = inl refl

some_word : (i : Insn) → 1 ≤ size_of i
some_word (insn.Long name number high) = omega arith
some_word (insn.LongMem name word a) = omega arith
some_word (insn.Jump name word change next) = omega arith
some_word i = omega arith

-- words that are the same as far as an instruction has words read as it, too
reads_same : (i : Insn) (x y a b : ℕ) → a ≡ x → (size_of i ≡ 2 → b ≡ y) → Reads x y i → Reads a b i
reads_same (insn.Long name number high) x y a b e f h = rw (e, f refl) h
reads_same (insn.LongMem name word m) x y a b e f h = rw (e, f refl) h
reads_same (insn.Jump name word change next) x y a b e f h = rw (e, f refl) h
reads_same i x y a b e f h = record { in_range = h.in_range; first_is = h.first_is ∙ sym e; second_is = h.second_is }

-- the words that the processor reads at an address read as an instruction
abbrev pub ReadsAt : Bool → World → ℕ → Insn → Type 0
ReadsAt cnf w pc i = Reads (program_at cnf w pc) (program_at cnf w ((pc + 1) % 2 ^ 16)) i

-- ---- an instruction that runs where it stands

outside : (cnf : Bool) (w : World) (address : ℕ) → (cnf && in_program_b0 address) ≡ false → program_at cnf w address ≡ w.program address
unfolding program_at
outside cnf w address e = ap (λ (b : Bool). if b then w.words (b0_word address) else w.program address) e

first_outside : (cnf : Bool) (pc size : ℕ) → 1 ≤ size → clear_of_b0 cnf pc size ≡ true → (cnf && in_program_b0 pc) ≡ false
first_outside false pc size some clear = refl
first_outside true pc size some clear = grind (arith, nat_tests)

second_outside : (cnf : Bool) (pc size : ℕ) → size ≡ 2 → clear_of_b0 cnf pc size ≡ true → (cnf && in_program_b0 ((pc + 1) % 2 ^ 16)) ≡ false
second_outside false pc size two clear = refl
second_outside true pc size two clear = grind (arith, nat_tests)

plain_reads : (cnf : Bool) (w : World) (pc : ℕ) (i : Insn) → IsAt cnf w pc i → ReadsAt cnf w pc i
plain_reads cnf w pc i h =
    reads_same i (w.program pc) (w.program ((pc + 1) % 2 ^ 16)) _ _
    (outside cnf w pc (first_outside cnf pc (size_of i) (some_word i) h.clear))
    (λ two. outside cnf w ((pc + 1) % 2 ^ 16) (second_outside cnf pc (size_of i) two h.clear)) h.reads

-- ---- an instruction that runs in B0

held_first : (w : World) (address x : ℕ) (rest : List ℕ) → holds w address (x ∷ rest) ≡ true → (program_at true w address ≡ x) × (holds w ((address + 1) % 2 ^ 16) rest ≡ true)
held_first w address x rest h =
    let parts = and_parts (program_at true w address == x) (holds w ((address + 1) % 2 ^ 16) rest) h in
    (eqb-true (program_at true w address) x parts.0, parts.1)

copy_reads : (w : World) (m : RunMark) (i : Insn) → IsCopy w m i → ReadsAt true w m.run i
copy_reads w m i h = go (sizes i)
  where
    words_are : (n : ℕ) → size_of i ≡ n → holds w m.run (take n (w.program m.load ∷ w.program ((m.load + 1) % 2 ^ 16) ∷ [])) ≡ true
    words_are n e = ap (λ (k : ℕ). holds w m.run (take k (w.program m.load ∷ w.program ((m.load + 1) % 2 ^ 16) ∷ []))) (sym (h.size_is ∙ e)) ∙ h.held

    go : (size_of i ≡ 1) ⊎ (size_of i ≡ 2) → ReadsAt true w m.run i
    go (inl one) =
        let first = held_first w m.run (w.program m.load) [] (words_are 1 one) in
        reads_same i (w.program m.load) (w.program ((m.load + 1) % 2 ^ 16)) _ _ first.0 (λ two. absurd (omega (arith, one, two))) h.reads
    go (inr two) =
        let first = held_first w m.run (w.program m.load) (w.program ((m.load + 1) % 2 ^ 16) ∷ []) (words_are 2 two) in
        let second = held_first w ((m.run + 1) % 2 ^ 16) (w.program ((m.load + 1) % 2 ^ 16)) [] first.1 in
        reads_same i (w.program m.load) (w.program ((m.load + 1) % 2 ^ 16)) _ _ first.0 (λ _. second.0) h.reads

runs_there : (run_marks : List RunMark) (pc : ℕ) (m : RunMark) → run_at run_marks pc ≡ Some m → m.run ≡ pc
unfolding run_at
runs_there [] pc m e = absurd (cc)
runs_there (k ∷ run_marks) pc m e = go (k.run == pc) refl e (runs_there run_marks pc m)
  where
    go : (b : Bool) → (k.run == pc) ≡ b → (if b then Some k else first_at (λ (t : RunMark). t.run) run_marks pc) ≡ Some m → (first_at (λ (t : RunMark). t.run) run_marks pc ≡ Some m → m.run ≡ pc) → m.run ≡ pc
    go true q h later = let same : k ≡ m = cc in ap (λ (t : RunMark). t.run) (sym same) ∙ eqb-true k.run pc q
    go false q h later = later h

-- ---- what is fetched

found_under : (cnf : Bool) (o : Option RunMark) (m : RunMark) → option_and_then (under cnf) o ≡ Some m → (cnf ≡ true) × (o ≡ Some m)
found_under true None m e = absurd (cc)
found_under true (Some k) m e = (refl, e)
found_under false None m e = absurd (cc)
found_under false (Some k) m e = absurd (cc)

found_reads : (cnf : Bool) (w : World) (pc : ℕ) (i : Insn) (o : Option RunMark) → mark_found cnf w pc ≡ o → IsFound cnf w pc i o → ReadsAt cnf w pc i
found_reads cnf w pc i None e h = plain_reads cnf w pc i h
found_reads cnf w pc i (Some m) e h =
    let found = found_under cnf (run_at w.run_marks pc) m e in
    let there = runs_there w.run_marks pc m found.1 in
    subst (λ (b : Bool). ReadsAt b w pc i) (sym found.0) (subst (λ (address : ℕ). ReadsAt true w address i) there (copy_reads w m i h))

pub fetched_reads : (cnf : Bool) (w : World) (pc : ℕ) (i : Insn) → IsFetched cnf w pc (Some i) → ReadsAt cnf w pc i
fetched_reads cnf w pc i h = found_reads cnf w pc i (mark_found cnf w pc) refl h

-- two instructions that are fetched at an address under different marks are the same
pub one_fetched : (ms : List Mark) (rs : List RunMark) (cnf : Bool) (w : World) (pc : ℕ) (i j : Insn) → IsFetched cnf w pc (Some i) → IsFetched cnf (world_marked ms rs w) pc (Some j) → i ≡ j
one_fetched ms rs cnf w pc i j p q =
    let there = fetched_reads cnf (world_marked ms rs w) pc j q in
    one_reading _ _ i j (fetched_reads cnf w pc i p)
    (reads_same j _ _ _ _ (sym (program_marked ms rs cnf w pc)) (λ _. sym (program_marked ms rs cnf w ((pc + 1) % 2 ^ 16))) there)
