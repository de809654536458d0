-- What is counted of rows and parts, one after the other.
use Rattle.std.proofs.Common.{sym, ap, subst, ◌∙◌, ◌≡◌, ℕ, ◌+◌, ◌≤◌, List, [], ◌∷◌, length, add_assoc, add-zero, zero-add, arith, length-append}
use Rattle.c25_layout.specs.Layout.{item_words, parts_words, rows_words}
use Rattle.c25_layout.specs.declared.layout.Item.{Item}
use Rattle.c25_layout.specs.declared.layout.Item.TheVariants as item
use Rattle.c25_layout.specs.declared.layout.Part.{Part}
use Rattle.c25_layout.specs.declared.layout.Row.{Row}
use Rattle.c25_layout.proofs.InImage.{words_of_size}
use Rattle.c25_reach.specs.Reached.{item_reach, nothing, parts_reach, rows_reach, together}
use Rattle.c25_reach.specs.Room.{HasRoom}
use Rattle.c25_reach.specs.declared.reach.Reach.{Reach}

pub together_assoc : (a b c : Reach) → together (together a b) c ≡ together a (together b c)
together_assoc a b c = λ i. record {
  instructions = add_assoc a.instructions b.instructions c.instructions i;
  instruction_words = add_assoc a.instruction_words b.instruction_words c.instruction_words i;
  data_words = add_assoc a.data_words b.data_words c.data_words i;
}

pub together_nothing : (a : Reach) → together a nothing ≡ a
together_nothing a = λ i. record { instructions = add-zero a.instructions i; instruction_words = add-zero a.instruction_words i; data_words = add-zero a.data_words i }

pub nothing_together : (a : Reach) → together nothing a ≡ a
nothing_together a = λ i. record { instructions = zero-add a.instructions i; instruction_words = zero-add a.instruction_words i; data_words = zero-add a.data_words i }

-- the words that are counted of a row are its words
pub record Counts (reach : Reach) (words : ℕ) : Type 0 where
  pub all : reach.instruction_words + reach.data_words ≡ words
  pub each : reach.instructions ≤ reach.instruction_words

pub item_counts : (i : Item) → Counts (item_reach i) (length (item_words i))
item_counts (item.Plain i) = record { all = let size = words_of_size i in omega (arith, size); each = let size = words_of_size i in omega (arith, size) }
item_counts (item.Named i t) = record { all = let size = words_of_size i in omega (arith, size); each = let size = words_of_size i in omega (arith, size) }
item_counts (item.Words words) = record { all = omega arith; each = omega arith }
item_counts (item.Address number t) = record { all = omega arith; each = omega arith }

pub rows_count : (rows : List Row) → Counts (rows_reach rows) (length (rows_words rows))
rows_count [] = record { all = omega arith; each = omega arith }
rows_count (row ∷ rows) =
    let one = item_counts row.item in
    let rest = rows_count rows in
    let split = length-append (item_words row.item) (rows_words rows) in
    record { all = omega (arith, one.all, rest.all, split); each = omega (arith, one.each, rest.each) }

-- room for more, after what was counted
pub room_after : (before more : Reach) (words rest further : ℕ) → HasRoom before further → Counts more words → words + rest ≤ further → HasRoom (together before more) rest
room_after before more words rest further room counts fits = record {
  words = omega (arith, room.words, counts.all, fits);
  each = omega (arith, room.each, counts.each);
}

-- one part more was counted
pub next_part : (reach next whole : Reach) (part : Part) (left now : List Part) (rows : List Row) → now ≡ part ∷ left → rows ≡ part.rows.items → next ≡ together reach (rows_reach rows)
    → together reach (parts_reach now) ≡ whole → HasRoom reach (length (parts_words now)) → (together next (parts_reach left) ≡ whole) × HasRoom next (length (parts_words left))
next_part reach next whole part left now rows split same step so_far room =
    let first : next ≡ together reach (rows_reach part.rows.items) = step ∙ ap (λ (rs : List Row). together reach (rows_reach rs)) same in
    let words = length-append (rows_words part.rows.items) (parts_words left) in
    let enough = subst (λ (ps : List Part). HasRoom reach (length (parts_words ps))) split room in (
      ap (λ (r : Reach). together r (parts_reach left)) first ∙ together_assoc reach (rows_reach part.rows.items) (parts_reach left) ∙ ap (λ (ps : List Part). together reach (parts_reach ps)) (sym split) ∙ so_far,
      subst (λ (r : Reach). HasRoom r (length (parts_words left))) (sym first)
          (room_after reach (rows_reach part.rows.items) (length (rows_words part.rows.items)) (length (parts_words left)) (length (parts_words (part ∷ left))) enough (rows_count part.rows.items) (omega (arith, words))),
    )
