-- What `get_flag` reads of the text of a flag.
use Rattle.std.proofs.Common.{◌≡◌, ◌||◌, Bool, true, false, codes, refl, ap, Option, Some, None}
use Rattle.std.specs.Prelude.{IfSome}
use Rattle.std.specs.Str.{bytes_eq}
use Rattle.std.proofs.lemmas.Slice.Eq.{bytes_eq-Decides}
use Rattle.clap.specs.Words.{Text}
use Rattle.c25_options.specs.Complete.{IsFlagText}
use Rattle.c25_options.specs.Task.{IsFlag}

pub flag_read : (found : Option Text) (given : Bool) → IfSome found IsFlagText
    → (found ≡ None → given ≡ false) → (found ≡ Some (codes "true") → given ≡ true) → (found ≡ Some (codes "false") → given ≡ false) → IsFlag found given
flag_read None given text none used unused = none refl
flag_read (Some t) given text none used unused = go (bytes_eq t (codes "true")) refl text
  where
    go : (b : Bool) → bytes_eq t (codes "true") ≡ b → (b || bytes_eq t (codes "false")) ≡ true → given ≡ b
    go true is e = used (ap Some ((bytes_eq-Decides t (codes "true")).0 is))
    go false is e = unused (ap Some ((bytes_eq-Decides t (codes "false")).0 e))
