-- A file that a fault asks for is among others, or not.
use Rattle.std.proofs.Common.{◌≡◌, sym, subst, List, ℕ, Option, Some, None}
use Rattle.std.specs.Prelude.{is_some, true, false}
use Rattle.c25_meaning_expansion.specs.Files.{Files, text_named}
use Rattle.c25_disk.specs.Copies.{IsThere, Lacking}

pub there : (files : Files) (asked : Option (List ℕ)) (name : List ℕ) → Some name ≡ asked → is_some (text_named files name) ≡ true → IsThere files asked
there files asked name same is = subst (IsThere files) same is

pub there_none : (files : Files) (asked : Option (List ℕ)) → None ≡ asked → IsThere files asked
there_none files asked same = subst (IsThere files) same tt

pub lacking : (files : Files) (asked : Option (List ℕ)) (name : List ℕ) → Some name ≡ asked → is_some (text_named files name) ≡ false → Lacking files asked name
lacking files asked name same is = (sym same, is)
