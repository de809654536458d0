-- Words that sections have, as they are marked.
use Rattle.std.proofs.Common.{◌≡◌, ℕ, Bool, false, List, [], ◌++◌, length, get_or, replicate, take, sym, ap, ◌∙◌}
use Rattle.std.proofs.lemmas.List.{get_or-replicate, length-replicate}
use Rattle.std.proofs.Math.Seq.{take-append_seam}
use Rattle.c25_symbols.specs.View.{KnowsPage}

-- no word is marked at first
pub marked_none : (words : List Bool) (page : ℕ) → words ≡ replicate 65536 false → KnowsPage words page []
marked_none words page e = record {
  sized = ap length e ∙ length-replicate 65536 false;
  used = λ word low. ap (λ (ws : List Bool). get_or ws word false) e ∙ get_or-replicate 65536 word false false low;
}

-- a slice of a whole list that is written back
pub written_back : (len : ℕ) (words rest : List Bool) → length words ≡ len → take len (words ++ rest) ≡ words
written_back len words rest sized = ap (λ n. take n (words ++ rest)) (sym sized) ∙ take-append_seam words rest
