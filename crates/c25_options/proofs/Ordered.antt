-- Words in the order in which they are read.
use Rattle.std.proofs.Common.{◌≡◌, ◌∙◌, ◌+◌, ◌<◌, ◌≤◌, ◌++◌, ℕ, zero, suc, Bool, cond, true, false, refl, sym, ap, arith, drop, length, map, min, take, List, [], ◌∷◌, append-nil, append_assoc, take_all, string_bytes, length-append}
use Rattle.std.specs.Prelude.{String, codes}
use Rattle.std.specs.Str.{bytes_eq}
use Rattle.std.specs.declared.alloc.Global.{Global}
use Rattle.std.proofs.lemmas.List.{drop-map, drop_all, length-map, take-append-drop, take-map}
use Rattle.clap.specs.Words.{Text}
use Rattle.c25_options.specs.Arranged.{arranged, arranged_arguments, asking_help, moved, flags_in_front}

abbrev texts : List (String Global) → List Text
texts = map string_bytes

regrouped : (first second third fourth : List Text) → first ++ second ++ third ++ fourth ≡ first ++ (second ++ third ++ fourth)
regrouped first second third fourth =
    append_assoc (first ++ second) third fourth ∙ append_assoc first second (third ++ fourth) ∙ ap (λ (ws : List Text). first ++ ws) (sym (append_assoc second third fourth))

-- copies of the pieces of arguments are pieces of the copies
pub copied_moved : (name arguments flags rest subcommand after : List (String Global)) (count : ℕ) (words : List Text)
    → flags ≡ take count arguments → rest ≡ drop count arguments → subcommand ≡ take 1 rest → after ≡ drop 1 rest
    → words ≡ texts name ++ texts subcommand ++ texts flags ++ texts after → words ≡ texts name ++ moved count (texts arguments)
copied_moved name arguments flags rest subcommand after count words front back one more copied =
    let dropped : texts rest ≡ drop count (texts arguments) = ap texts back ∙ sym (drop-map string_bytes count arguments) in
    let first : texts subcommand ≡ take 1 (drop count (texts arguments)) = ap texts one ∙ sym (take-map string_bytes 1 rest) ∙ ap (take 1) dropped in
    let taken : texts flags ≡ take count (texts arguments) = ap texts front ∙ sym (take-map string_bytes count arguments) in
    let last : texts after ≡ drop 1 (drop count (texts arguments)) = ap texts more ∙ sym (drop-map string_bytes 1 rest) ∙ ap (drop 1) dropped in
    copied ∙ regrouped (texts name) (texts subcommand) (texts flags) (texts after) ∙ (λ i. texts name ++ (first i ++ taken i ++ last i))

pub copied_help : (name topic subcommand help rest lent : List (String Global)) (first : ℕ) (words : List Text)
    → first ≡ min (length topic) 1 → subcommand ≡ take first topic → rest ≡ drop first topic → lent ≡ help → texts help ≡ codes "--help" ∷ []
    → words ≡ texts name ++ texts subcommand ++ texts lent ++ texts rest → words ≡ texts name ++ asking_help (texts topic)
copied_help name topic subcommand help rest lent first words least one more same text copied =
    let asked : texts lent ≡ codes "--help" ∷ [] = ap texts same ∙ text in
    let front : subcommand ≡ take (min (length topic) 1) topic = one ∙ ap (λ (n : ℕ). take n topic) least in
    let back : rest ≡ drop (min (length topic) 1) topic = more ∙ ap (λ (n : ℕ). drop n topic) least in
    copied ∙ regrouped (texts name) (texts subcommand) (texts lent) (texts rest) ∙ (λ i. texts name ++ (texts (front i) ++ asked i ++ texts (back i))) ∙ ap (λ (ws : List Text). texts name ++ ws) (by topic)
  where
    by : (topic : List (String Global)) → texts (take (min (length topic) 1) topic) ++ (codes "--help" ∷ []) ++ texts (drop (min (length topic) 1) topic) ≡ asking_help (texts topic)
    by [] = refl
    by (t ∷ ts) = let on : min (length (t ∷ ts)) 1 ≡ 1 = omega arith in ap (λ (n : ℕ). texts (take n (t ∷ ts)) ++ (codes "--help" ∷ []) ++ texts (drop n (t ∷ ts))) on

-- arguments of which the first is not `help`
pub arranged_flags : (first : Text) (rest : List Text) → bytes_eq first (codes "help") ≡ false → arranged_arguments (first ∷ rest) ≡ moved (flags_in_front (first ∷ rest)) (first ∷ rest)
arranged_flags first rest other = rw other refl

pub arranged_help : (first : Text) (rest : List Text) → bytes_eq first (codes "help") ≡ true → arranged_arguments (first ∷ rest) ≡ asking_help rest
arranged_help first rest is = rw is refl

-- no flags, or nothing but flags
pub moved_none : (arguments : List Text) → moved 0 arguments ≡ arguments
moved_none [] = refl
moved_none (first ∷ rest) = refl

pub moved_all : (arguments : List Text) → moved (length arguments) arguments ≡ arguments
moved_all arguments =
    let none : drop (length arguments) arguments ≡ [] = drop_all (length arguments) arguments (omega arith) in
    let all : take (length arguments) arguments ≡ arguments = take_all (length arguments) arguments (omega arith) in
    (λ i. take 1 (none i) ++ all i ++ drop 1 (none i)) ∙ append-nil arguments

-- ---- how many words there are

asked_some : (topic : List Text) → 1 ≤ length (asking_help topic)
asked_some [] = omega arith
asked_some (t ∷ ts) = omega arith

moved_some : (n : ℕ) (first : Text) (rest : List Text) → 1 ≤ length (moved n (first ∷ rest))
moved_some zero first rest = omega arith
moved_some (suc n) first rest =
    let front = take 1 (drop n rest) ++ (first ∷ take n rest) in
    let one : length front ≡ length (take 1 (drop n rest)) + length (first ∷ take n rest) = length-append (take 1 (drop n rest)) (first ∷ take n rest) in
    let all : length (front ++ drop 1 (drop n rest)) ≡ length front + length (drop 1 (drop n rest)) = length-append front (drop 1 (drop n rest)) in
    let some : 1 ≤ length (first ∷ take n rest) = omega arith in
    let long : 1 ≤ length (front ++ drop 1 (drop n rest)) = omega (arith, one, all, some) in
    long

pub arranged_long : (words : List Text) → 2 ≤ length words → 2 ≤ length (arranged words)
arranged_long [] long = absurd (omega arith)
arranged_long (name ∷ []) long = absurd (omega arith)
arranged_long (name ∷ first ∷ rest) long =
    let some = go (bytes_eq first (codes "help")) in
    omega (arith, some)
  where
    go : (b : Bool) → 1 ≤ length (cond b (asking_help rest) (moved (flags_in_front (first ∷ rest)) (first ∷ rest)))
    go true = asked_some rest
    go false = moved_some (flags_in_front (first ∷ rest)) first rest

pub arranged_short : (words : List Text) → length words < 2 → length (arranged words) < 2
arranged_short [] short = omega arith
arranged_short (name ∷ []) short = omega arith
arranged_short (name ∷ first ∷ rest) short = absurd (omega arith)

-- ---- the arguments

pub stands_empty : (arguments : List (String Global)) → length arguments ≡ 0 → arranged_arguments (texts arguments) ≡ texts arguments
stands_empty [] none = refl
stands_empty (first ∷ rest) none = absurd (omega arith)

pub helped : (name arguments rest : List (String Global)) (first : String Global) (words : List Text) → arguments ≡ first ∷ rest → bytes_eq (string_bytes first) (codes "help") ≡ true
    → words ≡ texts name ++ asking_help (texts rest) → words ≡ texts name ++ arranged_arguments (texts arguments)
helped name arguments rest first words are help asked =
    asked ∙ ap (λ (ws : List Text). texts name ++ ws) (sym (ap (λ (args : List (String Global)). arranged_arguments (texts args)) are ∙ arranged_help (string_bytes first) (texts rest) help))

flags_of : (arguments rest : List (String Global)) (first : String Global) → arguments ≡ first ∷ rest → bytes_eq (string_bytes first) (codes "help") ≡ false
    → arranged_arguments (texts arguments) ≡ moved (flags_in_front (texts arguments)) (texts arguments)
flags_of arguments rest first are other =
    ap (λ (args : List (String Global)). arranged_arguments (texts args)) are ∙ arranged_flags (string_bytes first) (texts rest) other
    ∙ ap (λ (args : List (String Global)). moved (flags_in_front (texts args)) (texts args)) (sym are)

pub are_moved : (name arguments rest : List (String Global)) (first : String Global) (flags : ℕ) (words : List Text) → arguments ≡ first ∷ rest → bytes_eq (string_bytes first) (codes "help") ≡ false
    → flags ≡ flags_in_front (texts arguments) → words ≡ texts name ++ moved flags (texts arguments) → words ≡ texts name ++ arranged_arguments (texts arguments)
are_moved name arguments rest first flags words are other count is =
    is ∙ ap (λ (n : ℕ). texts name ++ moved n (texts arguments)) count ∙ ap (λ (ws : List Text). texts name ++ ws) (sym (flags_of arguments rest first are other))

pub stands_without : (arguments rest : List (String Global)) (first : String Global) (flags : ℕ) → arguments ≡ first ∷ rest → bytes_eq (string_bytes first) (codes "help") ≡ false
    → flags ≡ flags_in_front (texts arguments) → flags ≡ 0 → arranged_arguments (texts arguments) ≡ texts arguments
stands_without arguments rest first flags are other count none =
    flags_of arguments rest first are other ∙ ap (λ (n : ℕ). moved n (texts arguments)) (sym count ∙ none) ∙ moved_none (texts arguments)

pub stands_flags : (arguments rest : List (String Global)) (first : String Global) (flags : ℕ) → arguments ≡ first ∷ rest → bytes_eq (string_bytes first) (codes "help") ≡ false
    → flags ≡ flags_in_front (texts arguments) → flags ≡ length arguments → arranged_arguments (texts arguments) ≡ texts arguments
stands_flags arguments rest first flags are other count all =
    flags_of arguments rest first are other ∙ ap (λ (n : ℕ). moved n (texts arguments)) (sym count ∙ all ∙ sym (length-map arguments string_bytes)) ∙ moved_all (texts arguments)

-- ---- the words

cut_words : (words name arguments : List (String Global)) → name ≡ take 1 words → arguments ≡ drop 1 words → (texts name ≡ take 1 (texts words)) × (texts arguments ≡ drop 1 (texts words))
cut_words words name arguments front back =
    (ap texts front ∙ sym (take-map string_bytes 1 words), ap texts back ∙ sym (drop-map string_bytes 1 words))

pub stands : (words name arguments : List (String Global)) → name ≡ take 1 words → arguments ≡ drop 1 words → arranged_arguments (texts arguments) ≡ texts arguments → arranged (texts words) ≡ texts words
stands words name arguments front back same =
    let cut = cut_words words name arguments front back in
    (λ i. sym cut.0 i ++ arranged_arguments (sym cut.1 i)) ∙ ap (λ (ws : List Text). texts name ++ ws) same ∙ (λ i. cut.0 i ++ cut.1 i) ∙ take-append-drop 1 (texts words)

pub moves : (words name arguments : List (String Global)) (found : List Text) → name ≡ take 1 words → arguments ≡ drop 1 words → found ≡ texts name ++ arranged_arguments (texts arguments) → found ≡ arranged (texts words)
moves words name arguments found front back is =
    let cut = cut_words words name arguments front back in
    is ∙ (λ i. cut.0 i ++ arranged_arguments (cut.1 i))

pub stands_short : (words : List (String Global)) → length words < 2 → arranged (texts words) ≡ texts words
stands_short [] short = refl
stands_short (name ∷ []) short = refl
stands_short (name ∷ first ∷ rest) short = absurd (omega arith)
