-- Blocks in pages of 128 words.
use Rattle.std.proofs.Common.{◌≡◌, ℕ, ◌+◌, ◌%◌, Bool, true, false, ◌&&◌, leb, List, [], ◌∷◌, ◌++◌, length, get_or, refl, sym, ap, subst, ◌∙◌, arith}
use Rattle.std.proofs.lemmas.List.{get_or-replicate, length-replicate}
use Rattle.std.proofs.lemmas.List.Folds.{list_all-append}
use Rattle.c25_meaning_linking.specs.GoodMap.{is_paged, blocks_fit}
use Rattle.c25_meaning_linking.specs.Place.{BlockData, block_behind}
use Rattle.c25_meaning_objects.specs.declared.object.Block.{Block}
use Rattle.c25_place.specs.Blocks.{KnowsFits, KnowsPaging, anywhere}
use Rattle.c25_place.specs.declared.blocks.Paging.{Paging}

-- ---- only the place in a page counts

-- where a block begins in its page
same_place : (base offset : ℕ) → (base % 128 + offset) % 128 ≡ (base + offset) % 128
same_place base offset = omega arith

pub fit_by_place : (base : ℕ) (blocks : List BlockData) → blocks_fit (base % 128) blocks ≡ blocks_fit base blocks
fit_by_place base [] = refl
fit_by_place base (b ∷ blocks) =
    ap (λ n. leb (n + b.size) 128 && blocks_fit (base % 128) blocks) (same_place base b.offset)
    ∙ ap (λ t. is_paged base b && t) (fit_by_place base blocks)

pub fits_at : (fits : List Bool) (blocks : List BlockData) (base : ℕ) → KnowsFits fits blocks → get_or fits (base % 128) false ≡ blocks_fit base blocks
fits_at fits blocks base k = k.places (base % 128) (omega arith) ∙ fit_by_place base blocks

-- ---- what is known of a section

pub known_of_none : KnowsPaging anywhere 0 []
known_of_none = record {
  words_are = refl;
  fits_are = record {
    sized = length-replicate 128 true;
    places = λ place lt. get_or-replicate 128 place true false lt;
  };
}

and_true : (b : Bool) → (b && true) ≡ b
and_true true = refl
and_true false = refl

-- a block begins at one place in a page, whatever whole pages stand before it
same_block : (place behind words offset : ℕ) → behind % 128 ≡ words % 128 → (place + (behind % 128 + offset)) % 128 ≡ (place + (words + offset)) % 128
same_block place behind words offset e = omega (arith, e)

-- a block more
pub with_block : (p after : Paging) (words offset : ℕ) (blocks : List BlockData) (b : Block) (fits : List Bool) → offset ≡ p.words % 128 + b.offset → after.words ≡ p.words % 128 → length fits ≡ length p.fits
    → ((place : ℕ) → get_or fits place false ≡ (get_or p.fits place false && leb ((place + offset) % 128 + b.size) 128)) → after.fits ≡ fits → KnowsPaging p words blocks → KnowsPaging after words (blocks ++ block_behind words b ∷ [])
with_block p after words offset blocks b fits is count sized kept fits_is k = record {
  words_are = ap (λ n. n % 128) count ∙ twice p.words ∙ k.words_are;
  fits_are = record {
    sized = ap length fits_is ∙ sized ∙ k.fits_are.sized;
    places = λ place lt.
        ap (λ fs. get_or fs place false) fits_is ∙ kept place ∙ ap (λ t. t && leb ((place + offset) % 128 + b.size) 128) (k.fits_are.places place lt)
        ∙ ap (λ n. blocks_fit place blocks && leb (n + b.size) 128) (ap (λ o. (place + o) % 128) is ∙ same_block place p.words words b.offset k.words_are)
        ∙ ap (λ t. blocks_fit place blocks && t) (sym (and_true (is_paged place (block_behind words b))))
        ∙ sym (list_all-append (is_paged place) blocks (block_behind words b ∷ []));
  };
}
  where
    twice : (n : ℕ) → n % 128 % 128 ≡ n % 128
    twice n = omega arith

-- a part more
pub behind : (p after : Paging) (before words : ℕ) (blocks : List BlockData) → after.words ≡ p.words % 128 + words → after.fits ≡ p.fits → KnowsPaging p before blocks → KnowsPaging after (before + words) blocks
behind p after before words blocks is same k = record {
  words_are = omega (arith, is, k.words_are);
  fits_are = subst (λ fs. KnowsFits fs blocks) (sym same) k.fits_are;
}
