-- The first states of programs with the same words.
use Rattle.std.proofs.Common.{◌≡◌, ℕ, List, ap, ◌∙◌}
use Rattle.std.specs.FinMap as finite
use Rattle.std.specs.Ordering.{nat_cmp}
use mathlib.Core.Path.{fun_ext}
use Rattle.c25_meaning_image.specs.declared.mark.Mark.{Mark}
use Rattle.c25_meaning_image.specs.declared.mark.RunMark.{RunMark}
use Rattle.c25_meaning_processor.specs.FirstState.{first_of_pages, loaded, memory_of_map}
use Rattle.c25_meaning_processor.specs.Memory.{Memory}
use Rattle.c25_meaning_processor.specs.Reset.{reset}
use Rattle.c25_meaning_processor.specs.State.{state_of}
use Rattle.c25_image_laws.specs.Agree.{unmarked}

pub firsts_alike : (page0 page1 other0 other1 : finite.FinMap nat_cmp ℕ) (marks other_marks : List Mark) (run_marks other_run_marks : List RunMark) (samples : ℕ → List ℕ)
    → ((address : ℕ) → memory_of_map page0 address ≡ memory_of_map other0 address)
    → ((address : ℕ) → memory_of_map page1 address ≡ memory_of_map other1 address)
    → unmarked (first_of_pages page0 page1 marks run_marks samples) ≡ unmarked (first_of_pages other0 other1 other_marks other_run_marks samples)
firsts_alike page0 page1 other0 other1 marks other_marks run_marks other_run_marks samples program store =
    ap (λ (m : Memory). unmarked (state_of reset (loaded marks run_marks m (memory_of_map page1) samples))) (fun_ext program)
    ∙ ap (λ (m : Memory). unmarked (state_of reset (loaded marks run_marks (memory_of_map other0) m samples))) (fun_ext store)
