-- What is fetched, whatever was put out before.
use Rattle.std.proofs.Common.{◌≡◌, ℕ, ◌+◌, ◌%◌, ◌^◌, ◌==◌, ◌&&◌, Bool, true, List, [], ◌∷◌, Option, None, Some, refl, ap, sym, ◌∙◌}
use Rattle.c25_meaning_image.specs.declared.mark.RunMark.{RunMark}
use Rattle.c25_meaning_instructions.specs.declared.insn.Insn.{Insn}
use Rattle.c25_meaning_processor.specs.State.{World, holds, program_at}
use Rattle.c25_meaning_processor.specs.WordStep.{IsFetchedBy, IsFound, loaded_words}
use Rattle.c25_run_laws.proofs.Apart.{program_apart}
use Rattle.c25_run_laws.specs.Behind.{world_behind}

module _ (o : List (ℕ × ℕ)) where
  holds_apart : (w : World) (address : ℕ) (words : List ℕ) → holds (world_behind o w) address words ≡ holds w address words
  holds_apart w address [] = refl
  holds_apart w address (word ∷ words) =
      ap (λ x. x == word && holds (world_behind o w) ((address + 1) % 2 ^ 16) words) (program_apart o true w address)
      ∙ ap (λ b. program_at true w address == word && b) (holds_apart w ((address + 1) % 2 ^ 16) words)

  found_behind : (cnf : Bool) (w : World) (pc : ℕ) (i : Insn) (m : Option RunMark) → IsFound cnf w pc i m → IsFound cnf (world_behind o w) pc i m
  found_behind cnf w pc i None h = record { marked = h.marked; clear = h.clear; reads = h.reads }
  found_behind cnf w pc i (Some m) h = record { size_is = h.size_is; held = holds_apart w m.run (loaded_words w m) ∙ h.held; reads = h.reads }

  found_before : (cnf : Bool) (w : World) (pc : ℕ) (i : Insn) (m : Option RunMark) → IsFound cnf (world_behind o w) pc i m → IsFound cnf w pc i m
  found_before cnf w pc i None h = record { marked = h.marked; clear = h.clear; reads = h.reads }
  found_before cnf w pc i (Some m) h = record { size_is = h.size_is; held = sym (holds_apart w m.run (loaded_words w m)) ∙ h.held; reads = h.reads }

  pub fetched_behind : (cnf : Bool) (w : World) (pc : ℕ) (m : Option RunMark) (i : Option Insn) → IsFetchedBy cnf w pc m i → IsFetchedBy cnf (world_behind o w) pc m i
  fetched_behind cnf w pc m None h = λ i found. h i (found_before cnf w pc i m found)
  fetched_behind cnf w pc m (Some i) h = found_behind cnf w pc i m h
