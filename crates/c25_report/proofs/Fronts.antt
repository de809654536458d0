-- Texts of which a front is written.
use Rattle.std.proofs.Common.{◌≡◌, ◌∙◌, ℕ, List, [], ◌++◌, Option, ap, sym, subst, append_assoc, append-nil, take, drop, take-append-drop}
use Rattle.std.proofs.KnownBytes.{Appends-kept, Appends-nil, Appends-trans}
use Rattle.std.specs.Io.KnownBytes.{Appends, Keeps}
use Rattle.c25_report.specs.Ending.{HasFront}

-- a front of a text is written, and this is what is left of it
pub record Leaves (text rest : List ℕ) (old new : Option (List ℕ)) : Type 0 where
  pub front : List ℕ
  pub whole : text ≡ front ++ rest
  pub written : Appends old new front

pub none_written : (text rest : List ℕ) (old : Option (List ℕ)) → rest ≡ text → Leaves text rest old old
none_written text rest old same = record { front = []; whole = sym same; written = Appends-nil old }

pub more_written : (text rest : List ℕ) (count : ℕ) (old now new : Option (List ℕ)) → Appends now new (take count rest) → Leaves text rest old now → Leaves text (drop count rest) old new
more_written text rest count old now new more h =
    record {
      front = h.front ++ take count rest;
      whole = h.whole ∙ ap (λ (x : List ℕ). h.front ++ x) (sym (take-append-drop count rest)) ∙ sym (append_assoc h.front (take count rest) (drop count rest));
      written = Appends-trans old now new h.front (take count rest) h.written more;
    }

pub kept : (text rest : List ℕ) (old now new : Option (List ℕ)) → Keeps now new → Leaves text rest old now → Leaves text rest old new
kept text rest old now new keeps h = record { front = h.front; whole = h.whole; written = Appends-kept old now new h.front h.written keeps }

pub all_written : (text rest : List ℕ) (old new : Option (List ℕ)) → rest ≡ [] → Leaves text rest old new → Appends old new text
all_written text rest old new none h =
    subst (Appends old new) (sym (h.whole ∙ ap (λ (x : List ℕ). h.front ++ x) none ∙ append-nil h.front)) h.written

pub front_written : (text rest : List ℕ) (old new : Option (List ℕ)) → Leaves text rest old new → HasFront text old new
front_written text rest old new h = (h.front, rest, h.whole, h.written)
