-- What stands below a text, one byte after another.
use Rattle.std.proofs.Common.{◌≡◌, ℕ, ◌+◌, ◌<◌, ◌≤◌, List, [], ◌++◌, length, drop, get_or}
use Rattle.std.proofs.lemmas.List.{at_drop_all, at_drop_more}
use Rattle.c25_explain.specs.Places.{blank_below, blanks_below, caret_below, carets_below}

pub blanks_more : (text : List ℕ) (i : ℕ) (d : ℕ) → i < length text → blanks_below (drop i text) ≡ blank_below (get_or text i d) ++ blanks_below (drop (i + 1) text)
blanks_more text i d h = at_drop_more blanks_below text i d h

pub blanks_none : (text : List ℕ) (i : ℕ) → length text ≤ i → blanks_below (drop i text) ≡ []
blanks_none text i h = at_drop_all blanks_below text i h

pub carets_more : (text : List ℕ) (i : ℕ) (d : ℕ) → i < length text → carets_below (drop i text) ≡ caret_below (get_or text i d) ++ carets_below (drop (i + 1) text)
carets_more text i d h = at_drop_more carets_below text i d h

pub carets_none : (text : List ℕ) (i : ℕ) → length text ≤ i → carets_below (drop i text) ≡ []
carets_none text i h = at_drop_all carets_below text i h
