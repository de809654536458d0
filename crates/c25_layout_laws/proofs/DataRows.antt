-- What the text of words of data is read as, and of any row.
use Rattle.std.proofs.Common.{◌≡◌, ℕ, zero, suc, ◌+◌, ◌*◌, ◌<◌, ◌≤◌, true, false, List, [], ◌∷◌, ◌++◌, length, map, codes, Option, Result, Ok, pos, refl, sym, ap, ◌∙◌, arith, append_assoc, append-nil}
use Rattle.std.specs.Prelude.{string_bytes}
use Rattle.std.specs.List.{All, flat_map, prefix_len, slice_split}
use Rattle.std.specs.declared.alloc.Global.{Global}
use Rattle.std.specs.declared.vec.Vec.{Vec}
use Rattle.c25_layout.specs.Layout.{item_words}
use Rattle.c25_layout.specs.SourceText.{further_text, target_text, words_text}
use Rattle.c25_layout.specs.declared.layout.Item.{Item}
use Rattle.c25_layout.specs.declared.layout.Item.TheVariants as item
use Rattle.c25_layout.specs.declared.layout.Target as names
use Rattle.c25_bits.specs.Cut.{cut}
use Rattle.c25_meaning_assembly.specs.Addresses.{OperandValues, no_operands, taken, with_number, with_value}
use Rattle.c25_meaning_assembly.specs.AssemblyLine.{Put, act_of, all_expressions}
use Rattle.c25_meaning_assembly.specs.OperandFields.{field_of}
use Rattle.c25_meaning_assembly.specs.Sections.{Definitions}
use Rattle.c25_meaning_assembly.specs.StatementLine.{with_operand}
use Rattle.c25_meaning_assembly.specs.declared.assembly.DataWidth.TheVariants as width
use Rattle.c25_meaning_assembly.specs.declared.assembly.Directive.TheVariants as directive
use Rattle.c25_meaning_assembly.specs.declared.assembly.Target.TheVariants as target
use Rattle.c25_meaning_common.specs.Bytes.{is_letter_or_digit}
use Rattle.c25_meaning_common.specs.Results.{◌>>=◌, fold_ok}
use Rattle.c25_meaning_language.specs.Statement.{number_in}
use Rattle.c25_meaning_language.specs.Value.{Table}
use Rattle.c25_meaning_language.specs.declared.statement.Field.TheVariants as field
use Rattle.c25_meaning_language.specs.declared.statement.FaultKind.{FaultKind}
use Rattle.c25_meaning_language.specs.declared.value.Value.{Value}
use Rattle.c25_meaning_expansion.specs.Acts.{directive_of as expanding_of}
use Rattle.c25_meaning_instructions.specs.Show.{long_text}
use Rattle.c25_meaning_language.specs.Line.{Piece}
use Rattle.c25_meaning_language.specs.Operands.{is_comma, operands_of}
use Rattle.c25_meaning_language.specs.Tree.{Tree}
use Rattle.c25_meaning_language.specs.declared.line.TokenKind.TheVariants as kind
use Rattle.c25_meaning_linking.specs.Place.{Place}
use Rattle.c25_meaning_objects.specs.Module.{Contents}
use Rattle.c25_laws.specs.SourceValues.{counted_from, operand_number}
use Rattle.c25_print_laws.proofs.Lines.{is_free}
use Rattle.c25_print_laws.proofs.Numerals.{word_constant}
use Rattle.c25_print_laws.proofs.Tokens.{AreLexed, Word, placed, texts, texts_short}
use Rattle.c25_print_laws.proofs.Values.{constant_number, constant_tree}
use Rattle.c25_print_laws.proofs.Words.{comma, comma_lexed, constant, constant_lexed}
use Rattle.c25_layout_laws.proofs.Numbers.{constant_data, target_data}
use Rattle.c25_layout_laws.proofs.Remarked.{lexed_of}
use Rattle.c25_layout_laws.proofs.RowItems.{ReadsItem, named_read, plain_read, spaced_target, target_short, texts_target}
use Rattle.c25_layout_laws.proofs.Shown.{words_say}
use Rattle.c25_layout_laws.proofs.Taken.{Taken, name_taken}
use Rattle.c25_layout_laws.proofs.Targets.{target_lexed, target_tree, target_words}
use Rattle.c25_layout.specs.Names.{IsLabelName, IsRowItem}

-- ---- tokens

-- words after others, and words
abbrev further_tokens : List ℕ → List Word
further_tokens [] = []
further_tokens (w ∷ ws) = comma ∷ constant (long_text w) ∷ further_tokens ws

abbrev Fit : List ℕ → Type 0
Fit [] = Unit {0}
Fit (w ∷ ws) = (w < 65536) × Fit ws

fit_of : (ws : List ℕ) → All (λ w. w < 65536) ws → Fit ws
fit_of [] h = tt
fit_of (w ∷ ws) h = (h 0 w (omega arith), fit_of ws (λ k d lt. h (suc k) d (omega (arith, lt))))

further_ends : (ws : List ℕ) → prefix_len is_letter_or_digit (texts (further_tokens ws)) ≡ 0
further_ends [] = refl
further_ends (w ∷ ws) = refl

further_lexed : (ws : List ℕ) → Fit ws → AreLexed (further_tokens ws)
further_lexed [] h = tt
further_lexed (w ∷ ws) h = comma_lexed (constant (long_text w) ∷ further_tokens ws) (constant_lexed w (long_text w) (further_tokens ws) (word_constant w h.0) (further_ends ws) (further_lexed ws h.1))

further_count : (ws : List ℕ) → length (further_tokens ws) ≡ 2 * length ws
further_count [] = refl
further_count (w ∷ ws) = let rest = further_count ws in omega (arith, rest)

further_texts : (ws : List ℕ) → texts (further_tokens ws) ≡ flat_map further_text ws
further_texts [] = refl
further_texts (w ∷ ws) = ap (λ (xs : List ℕ). 44 ∷ (long_text w ++ xs)) (further_texts ws)

-- ---- what they are read as

abbrev tree_of : ℕ → Tree
tree_of w = constant_tree (long_text w)

abbrev piece : ℕ → List ℕ → Piece
piece at text = record { kind = kind.Constant; start = at; text = text }

-- the operands of a constant and of words after it
abbrev operands : ℕ → List ℕ → List ℕ → List (List Piece)
operands at text [] = (piece at text ∷ []) ∷ []
operands at text (w ∷ ws) = (piece at text ∷ []) ∷ operands (at + length text + 1) (long_text w) ws

split_is : (at : ℕ) (text : List ℕ) (ws : List ℕ) → slice_split (λ (q : Piece). is_comma q.kind) (placed at (constant text ∷ further_tokens ws)) ≡ operands at text ws
split_is at text [] = refl
split_is at text (w ∷ ws) = ap (λ (os : List (List Piece)). (piece at text ∷ []) ∷ os) (split_is (at + length text + 1) (long_text w) ws)

expressions_are : (at : ℕ) (text : List ℕ) (ws : List ℕ) → all_expressions (operands at text ws) ≡ Ok tt
expressions_are at text [] = refl
expressions_are at text (w ∷ ws) = expressions_are (at + length text + 1) (long_text w) ws

trees_are : (at : ℕ) (text : List ℕ) (ws : List ℕ) (before : List Tree) → fold_ok with_operand (record { trees = before; deep = false }) (operands at text ws) ≡ Ok (record { trees = before ++ constant_tree text ∷ map tree_of ws; deep = false })
unfolding with_operand
trees_are at text [] before = refl
trees_are at text (w ∷ ws) before =
    trees_are (at + length text + 1) (long_text w) ws (before ++ constant_tree text ∷ [])
    ∙ ap (λ (es : List Tree). Ok (record { trees = es; deep = false })) (append_assoc before (constant_tree text ∷ []) (tree_of w ∷ map tree_of ws))

words_act : (w : ℕ) (ws : List ℕ) (label : List ℕ) (at : ℕ) → act_of directive.Word label (operands_of (placed at (constant (long_text w) ∷ further_tokens ws))) ≡ Ok (Put (target.Data width.Word) (tree_of w ∷ map tree_of ws))
unfolding act_of
words_act w ws label at = rw (split_is at (long_text w) ws) (go ws)
  where
    go : (ws : List ℕ) → act_of directive.Word label (operands at (long_text w) ws) ≡ Ok (Put (target.Data width.Word) (tree_of w ∷ map tree_of ws))
    go [] = rw (trees_are at (long_text w) [] []) refl
    go (v ∷ vs) = rw (expressions_are at (long_text w) (v ∷ vs), trees_are at (long_text w) (v ∷ vs) []) refl

numbers_from : (modules : List Contents) (places : List Place) (number : ℕ) (m : Contents) (names : Definitions) (section offset k : ℕ) (ws : List ℕ) → Fit ws
    → counted_from (λ k e. operand_number modules places number m names section offset (field_of (target.Data width.Word) k) e) k (map tree_of ws) ≡ ws
numbers_from modules places number m names section offset k [] h = refl
numbers_from modules places number m names section offset k (w ∷ ws) h =
    ap (λ (n : ℕ). n ∷ counted_from (λ k e. operand_number modules places number m names section offset (field_of (target.Data width.Word) k) e) (k + 1) (map tree_of ws))
    (constant_data modules places number m names section offset w (long_text w) (word_constant w h.0).value h.0)
    ∙ ap (λ (ns : List ℕ). w ∷ ns) (numbers_from modules places number m names section offset (k + 1) ws h.1)

data_taken : (table : Table) (ws : List ℕ) (s : OperandValues) → Fit ws → s.addresses ≡ [] → Taken (target.Data width.Word) table (λ list. list ≡ []) s (map tree_of ws)
unfolding taken number_in
data_taken table [] s h none = (s, refl, none)
data_taken table (w ∷ ws) s h none =
    let number = constant_number w (long_text w) (word_constant w h.0).value (let small = h.0 in omega (arith, small)) table in
    let rest = data_taken table ws (with_number (cut (pos w) 16) s) h.1 none in
    (rest.0, ap (λ (x : Result Value FaultKind). (x >>= λ v. with_value v.base field.Word v.offset s) >>= λ y. fold_ok (taken (target.Data width.Word) table) y (map tree_of ws)) number ∙ rest.1, rest.2)

mapped : (ws : List ℕ) → length (map tree_of ws) ≡ length ws
mapped [] = refl
mapped (w ∷ ws) = let rest = mapped ws in omega (arith, rest)

-- ---- rows

free_word : is_free (codes ".word") ≡ true
unfolding expanding_of
free_word = refl

data_read : (ws : Vec ℕ Global) (w : ℕ) (rest : List ℕ) → ws.items ≡ w ∷ rest → Fit (w ∷ rest) → length (w ∷ rest) ≤ 16 → ReadsItem (item.Words ws)
data_read ws w rest items h few =
    let lexed : AreLexed (constant (long_text w) ∷ further_tokens rest) = constant_lexed w (long_text w) (further_tokens rest) (word_constant w h.0) (further_ends rest) (further_lexed rest h.1) in
    let short = texts_short (constant (long_text w) ∷ further_tokens rest) lexed in
    let count = further_count rest in
    let sizes = mapped rest in
    record {
      word = codes ".word";
      tokens = constant (long_text w) ∷ further_tokens rest;
      put = target.Data width.Word;
      trees = tree_of w ∷ map tree_of rest;
      is_first = refl;
      free = free_word;
      lexed = lexed_of (constant (long_text w) ∷ further_tokens rest) lexed;
      short = omega (arith, short, count, few);
      shown = ap (λ (xs : List ℕ). codes ".word " ++ words_text xs) items ∙ ap (λ (xs : List ℕ). codes ".word " ++ (long_text w ++ xs)) (sym (further_texts rest));
      says = words_say (constant (long_text w) ∷ further_tokens rest) (Put (target.Data width.Word) (tree_of w ∷ map tree_of rest)) (words_act w rest);
      sized = let same = ap length items in omega (arith, sizes, same);
      coded = refl;
      means = λ modules places number m names section offset given. numbers_from modules places number m names section offset 0 (w ∷ rest) h ∙ sym items;
      takes = λ table placed. data_taken table (w ∷ rest) no_operands h refl;
    }

module _ (t : names.Target) where
  target_act : (text : List ℕ) (after : ℕ) (label : List ℕ) (at : ℕ) → act_of directive.Word label (operands_of (placed at (target_words text after []))) ≡ Ok (Put (target.Data width.Word) (target_tree text after ∷ []))
  unfolding act_of with_operand
  target_act text zero label at = refl
  target_act text (suc after) label at = refl

  address_read : (number : ℕ) → IsLabelName (string_bytes t.name) → t.after < 65536 → number < 65536 → ReadsItem (item.Address number t)
  address_read number is small fits =
      let text = string_bytes t.name in
      record {
        word = codes ".word";
        tokens = target_words text t.after [];
        put = target.Data width.Word;
        trees = target_tree text t.after ∷ [];
        is_first = refl;
        free = free_word;
        lexed = target_lexed text t.after [] is.0 is.1 small refl refl tt;
        short = target_short text t.after [] is.1 small tt (omega arith);
        shown = ap (λ (xs : List ℕ). codes ".word" ++ xs) (sym (spaced_target text t.after [] ∙ ap (λ (xs : List ℕ). 32 ∷ xs) (texts_target text t.after [] ∙ append-nil (target_text t))));
        says = words_say (target_words text t.after []) (Put (target.Data width.Word) (target_tree text t.after ∷ [])) (target_act text t.after);
        sized = refl;
        coded = refl;
        means = λ modules places n m names section offset given. ap (λ (k : ℕ). k ∷ []) (target_data modules places n m names section offset text t.after number small fits given);
        takes = λ table placed. name_taken (target.Data width.Word) table text t.after placed small refl;
      }

words_read : (ws : Vec ℕ Global) (items : List ℕ) → ws.items ≡ items → 0 < length items → Fit items → length items ≤ 16 → ReadsItem (item.Words ws)
words_read ws [] e some h few = absurd (omega (arith, some))
words_read ws (w ∷ rest) e some h few = data_read ws w rest e h few

-- any row
pub item_read : (value : List ℕ → Option ℕ) (i : Item) → IsRowItem value i → 0 < length (item_words i) → ReadsItem i
item_read value (item.Plain i) h some = plain_read i h
item_read value (item.Named i t) h some = named_read value t i h
item_read value (item.Words ws) h some = words_read ws ws.items refl some (fit_of ws.items h.0) h.1
item_read value (item.Address number t) h some = address_read t number h.1.name h.1.small h.0
