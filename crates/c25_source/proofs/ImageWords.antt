-- A program of the texts of the parts of an image has kept its words.
use Rattle.std.proofs.Common.{◌≡◌, ◌⊎◌, ℕ, ◌+◌, ◌<◌, ◌≤◌, ltb, Bool, true, false, cond, List, [], ◌∷◌, length, Option, None, Some, Ok, refl, sym, ap, ◌∙◌, arith, inl, inr}
use Rattle.std.specs.FinMap as finite
use Rattle.std.specs.Ordering.{nat_cmp}
use Rattle.std.specs.List.{AllByRecursion}
use Rattle.std.proofs.lemmas.Bool.{ltb-false, ltb-true}
use Rattle.std.proofs.lemmas.List.Elements.{recursion_from_All}
use Rattle.std.proofs.lemmas.Slice.Eq.{bytes_eq-Decides}
use Rattle.c25_chain.proofs.Sourced.{are_modules}
use Rattle.c25_layout.specs.Blank.{IsBlank}
use Rattle.c25_layout.specs.Layout.{ArePartsOf, AreRows, Follow, IsInOne, IsPart, StandAt, item_words, rows_words}
use Rattle.c25_layout.specs.Layouts.{IsLayout}
use Rattle.c25_layout.specs.SourceText.{command_text, source_text}
use Rattle.c25_layout.specs.declared.layout.Part.{Part}
use Rattle.c25_layout.specs.declared.layout.Row.{Row}
use Rattle.c25_layout_laws.proofs.PartsWords.{stand_both}
use Rattle.c25_layout_laws.specs.Layouts.{HasWordsOf, IsEmpty}
use Rattle.c25_laws.specs.ProgramStatements.{AreModulesOf}
use Rattle.c25_meaning_expansion.specs.Files.{Files, text_named}
use Rattle.c25_meaning_linking.specs.Command.{CommandData}
use Rattle.c25_meaning_linking.specs.CommandText.{command_of}
use Rattle.c25_meaning_linking.specs.Linking.{ImageData, IsProgram}
use Rattle.c25_meaning_objects.specs.Module.{Contents}
use Rattle.c25_source.specs.Answer.{files_of_parts}
use Rattle.c25_source.specs.Kept.{IsKept, WordKept}
use Rattle.c25_source.specs.Rebuilt.{HasProgram}

-- the law on which this rests
pub record Laws : Type 0 where
  pub words : (files : Files) (name : List ℕ) (parts : List Part) (modules : List Contents) (command : CommandData) (image : ImageData) → text_named files name ≡ Some (source_text parts) → IsLayout parts
      → AreModulesOf files (name ∷ []) modules → command_of (command_text parts) ≡ Ok command → IsProgram modules command image → HasWordsOf parts image.program
  pub store : (files : Files) (name : List ℕ) (parts : List Part) (modules : List Contents) (command : CommandData) (image : ImageData) → text_named files name ≡ Some (source_text parts) → IsLayout parts
      → AreModulesOf files (name ∷ []) modules → command_of (command_text parts) ≡ Ok command → IsProgram modules command image → IsEmpty image.store

-- ---- words that stand in two images

both_at : (one other : finite.FinMap nat_cmp ℕ) (ws : List ℕ) (a address : ℕ) → StandAt one a ws → StandAt other a ws → a ≤ address → address < a + length ws → (w : ℕ) × (finite.get one address ≡ Some w) × (finite.get other address ≡ Some w)
both_at one other [] a address h k low high = absurd (omega (arith, low, high))
both_at one other (w ∷ ws) a address h k low high = go (ltb a address) refl (λ less. both_at one other ws (a + 1) address h.1 k.1 (omega (arith, less)) (omega (arith, high)))
  where
    go : (b : Bool) → ltb a address ≡ b → (a < address → (w : ℕ) × (finite.get one address ≡ Some w) × (finite.get other address ≡ Some w)) → (w : ℕ) × (finite.get one address ≡ Some w) × (finite.get other address ≡ Some w)
    go true e later = later (ltb-true a address e)
    go false e later =
        let most = ltb-false a address e in
        let here : a ≡ address = omega (arith, low, most) in
        (w, ap (finite.get one) (sym here) ∙ h.0, ap (finite.get other) (sym here) ∙ k.0)

both_in : (one other : finite.FinMap nat_cmp ℕ) (parts : List Part) (address : ℕ) → AllByRecursion (λ (p : Part). StandAt one p.address (rows_words p.rows.items)) parts → AllByRecursion (λ (p : Part). StandAt other p.address (rows_words p.rows.items)) parts
    → IsInOne parts address → (w : ℕ) × (finite.get one address ≡ Some w) × (finite.get other address ≡ Some w)
both_in one other [] address h k c = absurd c
both_in one other (p ∷ parts) address h k (inl c) = both_at one other (rows_words p.rows.items) p.address address h.0 k.0 c.0 c.1
both_in one other (p ∷ parts) address h k (inr c) = both_in one other parts address h.1 k.1 c

rows_in : (words : finite.FinMap nat_cmp ℕ) (rows : List Row) (a : ℕ) → AreRows words a rows → StandAt words a (rows_words rows)
rows_in words [] a h = tt
rows_in words (r ∷ rows) a h = stand_both words (item_words r.item) (rows_words rows) a h.1.stands (rows_in words rows (a + length (item_words r.item)) h.2)

parts_in : (words : finite.FinMap nat_cmp ℕ) (parts : List Part) → AllByRecursion (IsPart words) parts → AllByRecursion (λ (p : Part). StandAt words p.address (rows_words p.rows.items)) parts
parts_in words [] h = tt
parts_in words (p ∷ parts) h = (rows_in words p.rows.items p.address h.0, parts_in words parts h.1)

in_one_small : (from : ℕ) (parts : List Part) (address : ℕ) → Follow from parts → IsInOne parts address → address < 65536
in_one_small from [] address follow c = absurd c
in_one_small from (p ∷ parts) address (low, some, inside, follow) (inl c) = let below = c.1 in omega (arith, below, inside)
in_one_small from (p ∷ parts) address (low, some, inside, follow) (inr c) = in_one_small (p.address + length (rows_words p.rows.items)) parts address follow c

-- ---- a program of an image's parts

module _ (laws : Laws) (name : List ℕ) (words : finite.FinMap nat_cmp ℕ) (blank : ℕ) (parts : List Part) (layout : IsLayout parts) (are : ArePartsOf words blank parts) (p : HasProgram (files_of_parts name parts)) where
  there : text_named ((name, source_text parts) ∷ []) name ≡ Some (source_text parts)
  there = ap (λ (b : Bool). cond b (Some (source_text parts)) None) ((bytes_eq-Decides name name).1 refl)

  of : AreModulesOf ((name, source_text parts) ∷ []) (name ∷ []) (p.built).all.modules
  of = are_modules ((name, source_text parts) ∷ []) (name ∷ []) (p.built).all (p.built).assembled

  has : HasWordsOf parts p.image.program
  has = laws.words ((name, source_text parts) ∷ []) name parts (p.built).all.modules (p.built).linked.command p.image there layout of (p.built).linked.read (p.built).linked.program

  none : IsEmpty p.image.store
  none = laws.store ((name, source_text parts) ∷ []) name parts (p.built).all.modules (p.built).linked.command p.image there layout of (p.built).linked.read (p.built).linked.program

  both : (address : ℕ) → IsInOne parts address → (w : ℕ) × (finite.get words address ≡ Some w) × (finite.get p.image.program address ≡ Some w)
  both address c = both_in words p.image.program parts address (parts_in words parts (recursion_from_All (IsPart words) parts are.stand)) (recursion_from_All (λ (q : Part). StandAt p.image.program q.address (rows_words q.rows.items)) parts has.stand) c

  pub word_kept : IsKept words p.image.program blank
  word_kept address small = go (finite.get words address) (finite.get p.image.program address) refl refl
    where
      missing : (w : ℕ) → finite.get words address ≡ Some w → finite.get p.image.program address ≡ None → IsInOne parts address ⊎ IsBlank words blank address → IsBlank words blank address
      missing w e f (inl c) = let b = both address c in let found = b.2 in absurd (cc)
      missing w e f (inr long) = long

      go : (o q : Option ℕ) → finite.get words address ≡ o → finite.get p.image.program address ≡ q → WordKept (IsBlank words blank address) o q
      go None None e f = tt
      go (Some w) None e f = missing w e f (are.whole address w small e)
      go None (Some v) e f = let b = both address (has.none_else address v f) in let found = b.1 in absurd (cc)
      go (Some w) (Some v) e f = let b = both address (has.none_else address v f) in let here = b.1 in let there = b.2 in cc

  pub beyond : (address : ℕ) → 65536 ≤ address → finite.get p.image.program address ≡ None
  beyond address big = go (finite.get p.image.program address) refl
    where
      go : (o : Option ℕ) → finite.get p.image.program address ≡ o → o ≡ None
      go None e = refl
      go (Some w) e = let small = in_one_small 0 parts address layout.follow (has.none_else address w e) in absurd (omega (arith, small, big))

  pub store_is : (address : ℕ) → finite.get p.image.store address ≡ None
  store_is address = go (finite.get p.image.store address) refl
    where
      go : (o : Option ℕ) → finite.get p.image.store address ≡ o → o ≡ None
      go None e = refl
      go (Some w) e = absurd (none address w e)
