-- Refusals, with a line of which something holds.
use Rattle.std.proofs.Common.{◌≡◌, ◌<◌, ◌+◌, ◌++◌, ◌∙◌, ℕ, List, [], ◌∷◌, Result, Ok, Err, IfErr, ap, get_or, inl, inr, length, map, string_bytes, subst, sym, take, drop}
use Rattle.std.proofs.lemmas.List.{drop_more, map-append, take-append-drop}
use Rattle.std.specs.Borrow.{Bor}
use Rattle.std.specs.List.{All}
use Rattle.std.specs.Option.{option_map}
use Rattle.std.specs.Result.{IsErrAnd}
use Rattle.c25_disk.specs.Held.{Held, IsAllOf}
use Rattle.c25_move.specs.declared.code_page.CodePage.{CodePage}
use Rattle.c25_move_files.specs.Files.{IsRead, old_of}
use Rattle.c25_move_files.specs.Refusals.{AreRefused, IsBadHex, IsCommandUnread, IsFaulty, IsNoProgram, IsUnread, ShowBothUnasked, file_line, names_of, source_fault}
use Rattle.c25_move_files.specs.declared.gathered.OldSources.{OldSources}
use Rattle.c25_move_files.specs.declared.old.OldFile.{OldFile}
use Rattle.c25_move_files.specs.declared.refusals.Refusal.{Refusal}
use Rattle.c25_move_files.specs.declared.refusals.Refusal.TheVariants.{Faulty, Misused, NoMemory}

-- what holds of the line holds of it in other words
pub in_other_words : (holds other : List ℕ → Type 0) (r : Refusal) → ((line : List ℕ) → holds line → other line) → IsFaulty holds r → IsFaulty other r
in_other_words holds other (Faulty line) turn is = turn (string_bytes line) is
in_other_words holds other (Misused line) turn is = absurd is
in_other_words holds other (NoMemory n) turn is = tt

-- the same of a result
pub all_in_other_words : {A : Type 0} (holds other : List ℕ → Type 0) (r : Result A Refusal) → ((line : List ℕ) → holds line → other line) → IfErr r (IsFaulty holds) → IfErr r (IsFaulty other)
all_in_other_words holds other (Ok a) turn is = tt
all_in_other_words holds other (Err r) turn is = in_other_words holds other r turn is

-- names up to one, it, and the others
split_there : (names : List (Bor (List ℕ))) (i : ℕ) (d : Bor (List ℕ)) → i < length names
    → map (λ n. n.now) names ≡ map (λ n. n.now) (take i names) ++ (get_or names i d).now ∷ map (λ n. n.now) (drop (i + 1) names)
split_there names i d low =
    ap (map (λ n. n.now)) (sym (take-append-drop i names) ∙ ap (λ (rest : List (Bor (List ℕ))). take i names ++ rest) (drop_more names i d low))
    ∙ map-append (λ n. n.now) (take i names) (get_or names i d ∷ drop (i + 1) names)

-- a refusal that `?` hands on
handed_on : {A : Type 0} (holds : Refusal → Type 0) (r : Result A Refusal) (e : Refusal) → IsErrAnd r (λ x. x ≡ e) → holds e → IfErr r holds
handed_on holds (Ok a) e is held = tt
handed_on holds (Err x) e is held = subst holds (sym is) held

-- a source that is refused after others that are read
pub unread_there : {A : Type 0} (held : Held) (page : CodePage) (names : List (Bor (List ℕ))) (i : ℕ) (d : Bor (List ℕ)) (files before : List OldFile) (r : Result A Refusal) (e : Refusal) → i < length names → before ≡ files
    → names_of files ≡ map (λ n. n.now) (take i names) → All (λ f. IsRead held page (old_of f)) files
    → IsFaulty (λ line. line ≡ file_line (get_or names i d).now (source_fault (names_of before) (get_or names i d).now)) e → IsErrAnd r (λ x. x ≡ e) → IfErr r (IsFaulty (IsUnread held page (map (λ n. n.now) names)))
unread_there held page names i d files before r e low same named read is on =
    let after : IsFaulty (λ line. line ≡ file_line (get_or names i d).now (source_fault (names_of files) (get_or names i d).now)) e =
    subst (λ (fs : List OldFile). IsFaulty (λ line. line ≡ file_line (get_or names i d).now (source_fault (names_of fs) (get_or names i d).now)) e) same is in
    handed_on (IsFaulty (IsUnread held page (map (λ n. n.now) names))) r e on
    (in_other_words (λ line. line ≡ file_line (get_or names i d).now (source_fault (names_of files) (get_or names i d).now)) (IsUnread held page (map (λ n. n.now) names)) e
    (λ line at. record {
      before = files;
      name = (get_or names i d).now;
      further = map (λ n. n.now) (drop (i + 1) names);
      split = split_there names i d low ∙ ap (λ (ns : List (List ℕ)). ns ++ (get_or names i d).now ∷ map (λ n. n.now) (drop (i + 1) names)) (sym named);
      read = read;
      reported = at;
    }) after)

-- a source is refused
pub unread_refused : {A : Type 0} (held : Held) (asked : OldSources) (r : Result A Refusal) (e : Refusal) → IsFaulty (IsUnread held asked.code_page (map (λ n. n.now) asked.names.now)) e → IsErrAnd r (λ x. x ≡ e)
    → IfErr r (IsFaulty (AreRefused held asked))
unread_refused held asked r e is on =
    handed_on (IsFaulty (AreRefused held asked)) r e on (in_other_words (IsUnread held asked.code_page (map (λ n. n.now) asked.names.now)) (AreRefused held asked) e (λ line unread. inl unread) is)

-- sources that are read show both styles
pub both_refused : {A : Type 0} (held : Held) (asked : OldSources) (sources : List OldFile) (r : Result A Refusal) (e : Refusal) → names_of sources ≡ map (λ n. n.now) asked.names.now → All (λ f. IsRead held asked.code_page (old_of f)) sources
    → IsFaulty (ShowBothUnasked asked.style (map old_of sources)) e → IsErrAnd r (λ x. x ≡ e) → IfErr r (IsFaulty (AreRefused held asked))
both_refused held asked sources r e named read is on =
    handed_on (IsFaulty (AreRefused held asked)) r e on
    (in_other_words (ShowBothUnasked asked.style (map old_of sources)) (AreRefused held asked) e
    (λ line both. inr (inl (record { sources = sources; named = named; read = read; both = both }))) is)

-- the command file is refused
pub command_refused : {A : Type 0} (held : Held) (asked : OldSources) (r : Result A Refusal) (e : Refusal) → IsFaulty (IsCommandUnread (option_map (λ n. n.now) asked.command)) e → IsErrAnd r (λ x. x ≡ e)
    → IfErr r (IsFaulty (AreRefused held asked))
command_refused held asked r e is on =
    handed_on (IsFaulty (AreRefused held asked)) r e on
    (in_other_words (IsCommandUnread (option_map (λ n. n.now) asked.command)) (AreRefused held asked) e (λ line unread. inr (inr unread)) is)

-- a hex text that is read and refused
pub hex_refused : {A : Type 0} (held : Held) (name all text : List ℕ) (r : Result A Refusal) → IsAllOf (held name) all → text ≡ all → IfErr r (IsFaulty (IsBadHex text name)) → IfErr r (IsFaulty (IsNoProgram held name))
hex_refused held name all text r whole same is =
    all_in_other_words (IsBadHex text name) (IsNoProgram held name) r (λ line bad. inr (text, subst (IsAllOf (held name)) (sym same) whole, bad)) is
