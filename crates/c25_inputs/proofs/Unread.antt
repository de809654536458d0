-- Files that are read one after another.
use Rattle.std.proofs.Common.{◌≡◌, ◌∙◌, sym, ap, refl, ℕ, ◌+◌, ◌<◌, List, [], ◌∷◌, ◌++◌, length, map, take, drop, get_or, arith}
use Rattle.std.proofs.lemmas.List.{map_more, drop_more, map-append, take-append-drop}
use Rattle.std.proofs.lemmas.List.Elements.{All-append, All-nil, All-cons}
use Rattle.std.specs.Borrow.{Bor}
use Rattle.c25_chain.specs.Refusal.{Fault}
use Rattle.c25_disk.specs.Held.{Held, IsAllOf}
use Rattle.c25_meaning_expansion.specs.Files.{Files}
use Rattle.c25_meaning_common.specs.Results.{IsNoMemory}
use Rattle.c25_meaning_common.specs.declared.failure.Failure.TheVariants as failure
use Rattle.c25_inputs.specs.Files.{IsUnread}
use Rattle.c25_inputs.specs.Objects.{AreFiles, IsUnreadAmong}

abbrev pub texts : List (Bor (List ℕ)) → List (List ℕ)
texts = map (λ name. name.now)

split : (names : List (Bor (List ℕ))) (i : ℕ) (d : Bor (List ℕ)) → i < length names → texts names ≡ texts (take i names) ++ (get_or names i d).now ∷ texts (drop (i + 1) names)
split names i d low =
    ap texts (sym (take-append-drop i names) ∙ ap (λ rest. take i names ++ rest) (drop_more names i d low))
    ∙ map-append (λ name. name.now) (take i names) (get_or names i d ∷ drop (i + 1) names)

abbrev is_held : Held → List ℕ × List ℕ → Type 0
is_held held file = IsAllOf (held file.0) file.1

pub unread_at : (held : Held) (names : List (Bor (List ℕ))) (files : Files) (i : ℕ) (d : Bor (List ℕ)) (fault : Fault) → i < length names → AreFiles held (texts (take i names)) files → IsUnread (get_or names i d).now fault → IsUnreadAmong held (texts names) fault
unread_at held names files i d fault low read is = record {
  before = texts (take i names);
  files = files;
  name = (get_or names i d).now;
  after = texts (drop (i + 1) names);
  among = split names i d low;
  read = read;
  unread = is;
}

pub no_memory_among : (held : Held) (names : List (Bor (List ℕ))) (i : ℕ) (fault : Fault) → i < length names → IsNoMemory fault → IsUnreadAmong held (texts names) fault
no_memory_among held [] i fault low is = absurd (omega (arith, low))
no_memory_among held (name ∷ names) i (failure.NoMemory n) low is = record {
  before = [];
  files = [];
  name = name.now;
  after = texts names;
  among = refl;
  read = record { named = refl; as_held = All-nil (is_held held) };
  unread = (failure.NoMemory n, tt, tt);
}
no_memory_among held (name ∷ names) i (failure.Fault f) low is = absurd is

pub files_none : (held : Held) (names : List (Bor (List ℕ))) → AreFiles held (texts (take 0 names)) []
files_none held names = record { named = refl; as_held = All-nil (is_held held) }

pub files_more : (held : Held) (names : List (Bor (List ℕ))) (files : Files) (i : ℕ) (d : Bor (List ℕ)) (bytes : List ℕ) → i < length names → IsAllOf (held (get_or names i d).now) bytes → AreFiles held (texts (take i names)) files → AreFiles held (texts (take (i + 1) names)) (files ++ ((get_or names i d).now, bytes) ∷ [])
files_more held names files i d bytes low read so_far =
    let one : List ℕ × List ℕ = ((get_or names i d).now, bytes) in
    record {
      named =
          map-append (λ file. file.0) files (one ∷ []) ∙ ap (λ xs. xs ++ (get_or names i d).now ∷ []) so_far.named
          ∙ sym (map_more (λ name. name.now) names i d low);
      as_held = All-append (is_held held) files (one ∷ []) so_far.as_held (All-cons (is_held held) one [] read (All-nil (is_held held)));
    }
