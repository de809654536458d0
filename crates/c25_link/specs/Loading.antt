-- The words of a program as they are loaded, section by section.
use Rattle.std.specs.Prelude.{◌≡◌, ◌==◌, ◌<◌, ℕ, ◌+◌, ◌-◌, ◌&&◌, List, Option, Some, slice_index, nat_le, nat_lt, if◌then◌else◌, ◌↔◌, ◌⊎◌}
use Rattle.std.specs.FinMap as finite
use Rattle.std.specs.HashMap.{HashMap, get_by}
use Rattle.std.specs.Ordering.{nat_cmp}
use Rattle.c25_meaning_objects.specs.Module.{Contents}
use Rattle.c25_meaning_linking.specs.Place.{Place}
use Rattle.c25_meaning_linking.specs.Words.{HasWord, linked_word, relocation_at}
use Rattle.c25_meaning_objects.specs.declared.object.Relocation.{Relocation}
use Rattle.c25_meaning_image.specs.WordMap.{put_all}
use Rattle.c25_link.specs.declared.loading.PageLists.{PageLists}

-- the relocation that a map has for a word
abbrev pub found_at : {S : Type 0} → HashMap (ℕ × ℕ) Relocation S → ℕ → ℕ → Option Relocation
found_at m section offset = get_by (λ k. section == k.0 && offset == k.1) m

-- each word finds its relocation
abbrev pub KnowsRelocations : {S : Type 0} → HashMap (ℕ × ℕ) Relocation S → Contents → Type 0
KnowsRelocations m c = (section offset : ℕ) → found_at m section offset ≡ relocation_at c section offset

-- a word of a section, linked
abbrev pub linked_at : List Contents → List Place → ℕ → Contents → ℕ → List ℕ → ℕ → ℕ
linked_at modules places number m section words offset = linked_word modules places number m section offset (slice_index words offset)

-- the word at an address once so many words are loaded from a base on
abbrev pub loaded : ℕ → ℕ → (ℕ → ℕ) → Option ℕ → ℕ → Option ℕ
loaded base size word_at old address = if nat_le base address && nat_lt address (base + size) then Some (word_at (address - base)) else old

-- the program has the word, in a part before that of a section of a module
pub record HasWordBefore (modules : List Contents) (places : List Place) (number index page address word : ℕ) : Type 0 where
  pub has : HasWord modules places page address word
  pub before : (has.number < number) ⊎ ((has.number ≡ number) × (has.index < index))

-- the words of a page are those of the parts before that of a section of a module
abbrev pub HasWordsBefore : List Contents → List Place → ℕ → ℕ → ℕ → finite.FinMap nat_cmp ℕ → Type 0
HasWordsBefore modules places number index page words =
    (address word : ℕ) → (finite.get words address ≡ Some word) ↔ HasWordBefore modules places number index page address word

-- the words of both pages are those of the parts before that of a section of a module
pub record HavePagesBefore (modules : List Contents) (places : List Place) (number index : ℕ) (pages : PageLists) : Type 0 where
  pub program : HasWordsBefore modules places number index 0 (put_all pages.program)
  pub store : HasWordsBefore modules places number index 1 (put_all pages.store)
