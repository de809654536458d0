-- Words that stand in an image: those of instructions that were read there, of data, of rows and of parts.
use Rattle.std.proofs.Common.{◌≡◌, ◌⊎◌, ℕ, ◌+◌, ◌-◌, ◌<◌, ◌≤◌, List, [], ◌∷◌, ◌++◌, length, Option, Some, None, sym, ◌∙◌, ap, subst, inl, inr, refl, IfNone, IfOk, IfSome, Result, Ok, Err, arith, length-append}
use Rattle.std.specs.FinMap as finite
use Rattle.std.specs.Ordering.{nat_cmp}
use Rattle.std.specs.Option.{option_to_list}
use Rattle.std.proofs.lemmas.Bool.Decides.{leb_tells}
use Rattle.std.proofs.lemmas.List.Elements.{All-nil, All-push}
use Rattle.c25_layout.specs.Blank.{IsBlank}
use Rattle.c25_layout.specs.Layout.{ArePartsOf, ArePartsTo, AreRows, EndBy, Follow, HasInsn, IsIn, IsInOne, IsItem, IsPart, IsPartTo, IsSayable, StandAt, item_words, parts_words, rows_words}
use Rattle.c25_layout.specs.declared.layout.Item.{Item}
use Rattle.c25_layout.specs.declared.layout.Part.{Part}
use Rattle.c25_layout.specs.declared.layout.Row.{Row}
use Rattle.c25_layout.specs.declared.rows.Standing.{Standing}
use Rattle.c25_meaning_instructions.specs.Table.{InRange, Reads, mnemonic_of, opcode_word, second_word, size, words}
use Rattle.c25_meaning_instructions.specs.declared.insn.Insn.{Insn}
use Rattle.c25_meaning_instructions.specs.declared.insn.Insn.TheVariants as insn

-- ---- instructions

-- an instruction of one word has no second one
pub one_is_alone : (i : Insn) → size (mnemonic_of i) ≡ 1 → second_word i ≡ None
one_is_alone (insn.Mem name addr) h = refl
one_is_alone (insn.Shifted name addr shift) h = refl
one_is_alone (insn.ArMem name register addr) h = refl
one_is_alone (insn.Port name addr port) h = refl
one_is_alone (insn.Bit name addr code) h = refl
one_is_alone (insn.Short name register number) h = refl
one_is_alone (insn.Long name number high) h = absurd (omega (arith, h))
one_is_alone (insn.LongMem name word addr) h = absurd (omega (arith, h))
one_is_alone (insn.Jump name word change next) h = absurd (omega (arith, h))
one_is_alone (insn.Plain name operand) h = refl

-- an instruction has one word or two
pub words_of_size : (i : Insn) → length (words i) ≡ size (mnemonic_of i)
words_of_size (insn.Mem name addr) = refl
words_of_size (insn.Shifted name addr shift) = refl
words_of_size (insn.ArMem name register addr) = refl
words_of_size (insn.Port name addr port) = refl
words_of_size (insn.Bit name addr code) = refl
words_of_size (insn.Short name register number) = refl
words_of_size (insn.Long name number high) = refl
words_of_size (insn.LongMem name word addr) = refl
words_of_size (insn.Jump name word change next) = refl
words_of_size (insn.Plain name operand) = refl

module _ (image : finite.FinMap nat_cmp ℕ) (address : ℕ) where
  second_stands : (next : ℕ) (o : Option ℕ) → finite.get image address ≡ Some next → IfSome o (λ w. w ≡ next) → StandAt image address (option_to_list o)
  second_stands next None there h = tt
  second_stands next (Some w) there h = (there ∙ ap Some (sym h), tt)

-- how many words an instruction has at most
two_at_most : (i : Insn) → length (words i) ≤ 2
two_at_most i = let few = one_at_most (second_word i) in omega (arith, few) where
  one_at_most : (o : Option ℕ) → length (option_to_list o) ≤ 1
  one_at_most None = omega arith
  one_at_most (Some w) = omega arith

module _ (image : finite.FinMap nat_cmp ℕ) (address word : ℕ) (there : finite.get image address ≡ Some word) where
  -- an instruction that is read of two words
  reads_stand : (next : ℕ) → finite.get image (address + 1) ≡ Some next → address + 1 < 65536 → (i : Insn) → Reads word next i → HasInsn image address i
  reads_stand next after inside i r = record {
    stands = (there ∙ ap Some (sym r.first_is), second_stands image (address + 1) next (second_word i) after r.second_is);
    inside = let two = two_at_most i in omega (arith, two, inside);
    in_range = r.in_range;
  }

  one_stands : (i : Insn) → address < 65536 → Reads word 0 i → second_word i ≡ None → HasInsn image address i
  one_stands i inside r none = record {
    stands = (there ∙ ap Some (sym r.first_is), subst (λ (o : Option ℕ). StandAt image (address + 1) (option_to_list o)) (sym none) tt);
    inside = subst (λ (o : Option ℕ). address + length (opcode_word i ∷ option_to_list o) ≤ 65536) (sym none) (omega (arith, inside));
    in_range = r.in_range;
  }

  pub read_stands : (next : ℕ) (r : Option Insn) → finite.get image (address + 1) ≡ Some next → address + 1 < 65536 → IfSome r (Reads word next) → IfSome r (HasInsn image address)
  read_stands next None after inside h = tt
  read_stands next (Some i) after inside h = reads_stand next after inside i h

  pub alone_stands : (r : Option Insn) → address < 65536 → IfSome r (λ i. Reads word 0 i) → IfSome r (λ i. second_word i ≡ None) → IfSome r (HasInsn image address)
  alone_stands None inside h none = tt
  alone_stands (Some i) inside h none = one_stands i inside h none

-- ---- rows

insn_is_item : (image : finite.FinMap nat_cmp ℕ) (address : ℕ) (i : Insn) (item : Item) → item_words item ≡ words i → (InRange i → IsSayable item) → HasInsn image address i → IsItem image address item
insn_is_item image address i item same say has = record {
  stands = subst (λ (ws : List ℕ). StandAt image address ws) (sym same) has.stands;
  some = subst (λ (ws : List ℕ). 0 < length ws) (sym same) (omega arith);
  inside = subst (λ (ws : List ℕ). address + length ws ≤ 65536) (sym same) has.inside;
  sayable = say has.in_range;
}

-- one word more
pub stand_more : (image : finite.FinMap nat_cmp ℕ) (address : ℕ) (ws : List ℕ) (word : ℕ) → StandAt image address ws → finite.get image (address + length ws) ≡ Some word → StandAt image address (ws ++ word ∷ [])
stand_more image address [] word stands is = let e : address + 0 ≡ address = omega arith in (subst (λ (a : ℕ). finite.get image a ≡ Some word) e is, tt)
stand_more image address (w ∷ ws) word stands is =
    let e : address + length (w ∷ ws) ≡ address + 1 + length ws = omega arith in
    (stands.0, stand_more image (address + 1) ws word stands.1 (subst (λ (a : ℕ). finite.get image a ≡ Some word) e is))

pub data_stands : (image : finite.FinMap nat_cmp ℕ) (address passed word : ℕ) (old new : List ℕ) → new ≡ old ++ word ∷ [] → StandAt image address old → length old ≡ passed → finite.get image (address + passed) ≡ Some word → StandAt image address new
data_stands image address passed word old new same stands count is =
    subst (λ (ws : List ℕ). StandAt image address ws) (sym same)
    (stand_more image address old word stands (subst (λ (n : ℕ). finite.get image (address + n) ≡ Some word) (sym count) is))

pub data_count : (passed word : ℕ) (old new : List ℕ) → new ≡ old ++ word ∷ [] → length old ≡ passed → length new ≡ passed + 1
data_count passed word old new same count = let one = ap (λ (ws : List ℕ). length ws) same in let split = length-append old (word ∷ []) in omega (arith, one, split, count)

-- one row more
pub rows_more : (image : finite.FinMap nat_cmp ℕ) (address : ℕ) (rows : List Row) (row : Row) → AreRows image address rows → row.address ≡ address + length (rows_words rows)
    → IsItem image (address + length (rows_words rows)) row.item → AreRows image address (rows ++ row ∷ [])
rows_more image address [] row are at is = let e : address + 0 ≡ address = omega arith in (at ∙ e, subst (λ (a : ℕ). IsItem image a row.item) e is, tt)
rows_more image address (r ∷ rows) row are at is =
    let split = length-append (item_words r.item) (rows_words rows) in
    let same : address + length (rows_words (r ∷ rows)) ≡ address + length (item_words r.item) + length (rows_words rows) = omega (arith, split) in
    (are.0, are.1, rows_more image (address + length (item_words r.item)) rows row are.2 (at ∙ same) (subst (λ (a : ℕ). IsItem image a row.item) same is))

pub longer : (rows : List Row) (row : Row) → length (rows_words (rows ++ row ∷ [])) ≡ length (rows_words rows) + length (item_words row.item)
longer [] row = let split = length-append (item_words row.item) [] in omega (arith, split)
longer (r ∷ rows) row =
    let one = length-append (item_words r.item) (rows_words (rows ++ row ∷ [])) in
    let two = length-append (item_words r.item) (rows_words rows) in
    let rest = longer rows row in omega (arith, one, two, rest)

-- ---- parts

-- what is in a part stays in one
pub still_in : (parts : List Part) (part : Part) (address : ℕ) → IsInOne parts address → IsInOne (parts ++ part ∷ []) address
still_in [] part address h = absurd h
still_in (p ∷ parts) part address (inl h) = inl h
still_in (p ∷ parts) part address (inr h) = inr (still_in parts part address h)

pub in_last : (parts : List Part) (part : Part) (address : ℕ) → IsIn part address → IsInOne (parts ++ part ∷ []) address
in_last [] part address h = inl h
in_last (p ∷ parts) part address h = inr (in_last parts part address h)

end_later : (from : ℕ) (parts : List Part) (end : ℕ) → EndBy from parts end → EndBy from parts (end + 1)
end_later from [] end h = omega (arith, h)
end_later from (p ∷ parts) end h = end_later (p.address + length (rows_words p.rows.items)) parts end h

pub none_added : (image : finite.FinMap nat_cmp ℕ) (blank address : ℕ) (parts : List Part) → address < 65536 → ArePartsTo image blank parts address → ((word : ℕ) → finite.get image address ≡ Some word → IsBlank image blank address)
    → ArePartsTo image blank parts (address + 1)
none_added image blank address parts there so_far missing = record {
  stand = so_far.stand;
  follow = so_far.follow;
  end_by = end_later 0 parts address so_far.end_by;
  whole = λ a word less is. elim (leb_tells address a) [
    | inl h ↦ (let same : a ≡ address = omega (arith, h.1, less) in inr (subst (λ (k : ℕ). IsBlank image blank k) (sym same) (missing word (subst (λ (k : ℕ). finite.get image k ≡ Some word) same is))))
    | inr h ↦ so_far.whole a word h.1 is
  ];
  few = omega (arith, so_far.few);
  inside = omega (arith, there);
}

-- the words of one part more
more_words : (parts : List Part) (part : Part) → length (parts_words (parts ++ part ∷ [])) ≡ length (parts_words parts) + length (rows_words part.rows.items)
more_words [] part = let split = length-append (rows_words part.rows.items) [] in omega (arith, split)
more_words (p ∷ parts) part =
    let one = length-append (rows_words p.rows.items) (parts_words (parts ++ part ∷ [])) in
    let two = length-append (rows_words p.rows.items) (parts_words parts) in
    let rest = more_words parts part in omega (arith, one, two, rest)

still_so : (image : finite.FinMap nat_cmp ℕ) (parts : List Part) (part : Part) (blank address : ℕ) → IsInOne parts address ⊎ IsBlank image blank address → IsInOne (parts ++ part ∷ []) address ⊎ IsBlank image blank address
still_so image parts part blank address (inl h) = inl (still_in parts part address h)
still_so image parts part blank address (inr h) = inr h

-- one part more follows those that end before it
follow_more : (from : ℕ) (parts : List Part) (part : Part) → Follow from parts → EndBy from parts part.address → 0 < length (rows_words part.rows.items) → part.address + length (rows_words part.rows.items) ≤ 65536 → Follow from (parts ++ part ∷ [])
follow_more from [] part follow end some inside = (end, some, inside, tt)
follow_more from (p ∷ parts) part follow end some inside = (follow.0, follow.1, follow.2, follow_more (p.address + length (rows_words p.rows.items)) parts part follow.3 end some inside)

end_more : (from : ℕ) (parts : List Part) (part : Part) (end : ℕ) → end ≡ part.address + length (rows_words part.rows.items) → EndBy from (parts ++ part ∷ []) end
end_more from [] part end is = omega (arith, is)
end_more from (p ∷ parts) part end is = end_more (p.address + length (rows_words p.rows.items)) parts part end is

pub part_added : (image : finite.FinMap nat_cmp ℕ) (blank address : ℕ) (parts : List Part) (part : Part) (end : ℕ) → ArePartsTo image blank parts address → IsPartTo image address part end
    → ArePartsTo image blank (parts ++ part ∷ []) end
part_added image blank address parts part end so_far made = record {
  stand = All-push (IsPart image) parts part so_far.stand made.stands;
  follow = follow_more 0 parts part so_far.follow (subst (EndBy 0 parts) (sym made.begins) so_far.end_by) (let some = made.some in let ends = made.ends in omega (arith, some, ends)) (let within = made.inside in let ends = made.ends in let begins = made.begins in omega (arith, within, ends, begins));
  end_by = end_more 0 parts part end (let ends = made.ends in let begins = made.begins in omega (arith, ends, begins));
  whole = λ a word less is. elim (leb_tells address a) [
    | inl h ↦ inl (in_last parts part a (omega (arith, h.1, made.begins), omega (arith, less, made.ends, made.begins)))
    | inr h ↦ still_so image parts part blank a (so_far.whole a word h.1 is)
  ];
  few = let more = more_words parts part in omega (arith, more, so_far.few, made.ends);
  inside = made.inside;
}

pub no_parts : (image : finite.FinMap nat_cmp ℕ) (blank : ℕ) → ArePartsTo image blank [] 0
no_parts image blank = record { stand = All-nil (IsPart image); follow = tt; end_by = omega arith; whole = λ a word less is. absurd (omega (arith, less)); few = omega arith; inside = omega arith }

pub all_parts : (image : finite.FinMap nat_cmp ℕ) (blank : ℕ) (parts : List Part) (end : ℕ) → ArePartsTo image blank parts end → 65536 ≤ end → ArePartsOf image blank parts
all_parts image blank parts end so_far all = record { stand = so_far.stand; follow = so_far.follow; whole = λ a word less is. so_far.whole a word (omega (arith, less, all)) is; few = omega (arith, so_far.few, so_far.inside) }

-- ---- the rows of a part so far

-- rows stand from an address up to another, where the next one begins, if there is one
pub record AreRowsTo (image : finite.FinMap nat_cmp ℕ) (address : ℕ) (rows : List Row) (end : ℕ) (next : Option Standing) : Type 0 where
  pub stand : AreRows image address rows
  pub ends : end ≡ address + length (rows_words rows)
  pub goes_on : IfSome next (λ n. (n.address ≡ end) × (finite.get image end ≡ Some n.word) × (end < 65536))
  pub some : IfNone next (address < end)
  pub inside : end ≤ 65536

pub no_rows : (image : finite.FinMap nat_cmp ℕ) (first : Standing) → first.address < 65536 → finite.get image first.address ≡ Some first.word → AreRowsTo image first.address [] first.address (Some first)
no_rows image first there is = record { stand = tt; ends = omega arith; goes_on = (refl, is, there); some = tt; inside = omega (arith, there) }

after_none : (address end : ℕ) (next : Option Standing) → address < end → IfNone next (address < end)
after_none address end None less = less
after_none address end (Some n) less = tt

all_of : (P Q R : Standing → Type 0) (next : Option Standing) → IfSome next P → IfSome next Q → IfSome next R → IfSome next (λ n. P n × Q n × R n)
all_of P Q R None p q r = tt
all_of P Q R (Some n) p q r = (p, q, r)

-- one row more, which ends where the next one begins
pub row_added : (image : finite.FinMap nat_cmp ℕ) (address : ℕ) (rows all : List Row) (end to : ℕ) (row : Row) (start : Standing) (next : Option Standing) → all ≡ rows ++ row ∷ [] → to ≡ start.address + length (item_words row.item)
    → AreRowsTo image address rows end (Some start) → row.address ≡ start.address → IsItem image start.address row.item → IfSome next (λ n. n.address ≡ to) → IfSome next (λ n. finite.get image to ≡ Some n.word)
    → IfSome next (λ n. to < 65536) → AreRowsTo image address all to next
row_added image address rows all end to row start next same reach so_far at is place there inside =
    let here : start.address ≡ address + length (rows_words rows) = so_far.goes_on.0 ∙ so_far.ends in
    let long : length (rows_words (rows ++ row ∷ [])) ≡ length (rows_words rows) + length (item_words row.item) = longer rows row in
    let count : length (rows_words all) ≡ length (rows_words (rows ++ row ∷ [])) = ap (λ (rs : List Row). length (rows_words rs)) same in
    let more = is.some in
    let within = is.inside in record {
      stand = subst (λ (rs : List Row). AreRows image address rs) (sym same) (rows_more image address rows row so_far.stand (at ∙ here) (subst (λ (a : ℕ). IsItem image a row.item) here is));
      ends = omega (arith, reach, here, long, count);
      goes_on = all_of (λ n. n.address ≡ to) (λ n. finite.get image to ≡ Some n.word) (λ n. to < 65536) next place there inside;
      some = after_none address to next (omega (arith, reach, here, more));
      inside = omega (arith, reach, within);
    }

-- less is left after it
pub less_left : (image : finite.FinMap nat_cmp ℕ) (address : ℕ) (rows : List Row) (end to : ℕ) (row : Row) (start : Standing) → to ≡ start.address + length (item_words row.item) → AreRowsTo image address rows end (Some start)
    → IsItem image start.address row.item → 65536 - to < 65536 - end
less_left image address rows end to row start reach so_far is =
    let here : start.address ≡ end = so_far.goes_on.0 in
    let inside : end < 65536 = so_far.goes_on.2 in
    let more = is.some in omega (arith, reach, here, inside, more)

no_next : (address end : ℕ) (next : Option Standing) → ((n : Standing) → next ≡ Some n → ⊥) → IfNone next (address < end) → address < end
no_next address end None none some = some
no_next address end (Some n) none some = absurd (none n refl)

-- the rows of a part, where no row follows
pub all_rows : (image : finite.FinMap nat_cmp ℕ) (address : ℕ) (part : Part) (end : ℕ) (next : Option Standing) → part.address ≡ address → ((n : Standing) → next ≡ Some n → ⊥) → AreRowsTo image address part.rows.items end next
    → IsPartTo image address part end
all_rows image address part end next at none so_far = record {
  begins = at;
  stands = subst (λ (a : ℕ). AreRows image a part.rows.items) (sym at) so_far.stand;
  ends = so_far.ends;
  some = no_next address end next none so_far.some;
  inside = so_far.inside;
}

-- ---- words that may be missing

pub none_there : (o : Option ℕ) (P : Type 0) → o ≡ None → (word : ℕ) → o ≡ Some word → P
none_there o P none word some = absurd (cc (none, some))

-- ---- answers

pub insn_items : {E : Type 0} (image : finite.FinMap nat_cmp ℕ) (address : ℕ) (i : Insn) (r : Result Item E) → IfOk r (λ item. item_words item ≡ words i) → IfOk r (λ item. InRange i → IsSayable item) → HasInsn image address i
    → IfOk r (IsItem image address)
insn_items image address i (Ok item) same say has = insn_is_item image address i item same say has
insn_items image address i (Err e) same say has = tt
