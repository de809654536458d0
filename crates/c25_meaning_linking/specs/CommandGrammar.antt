-- How command files are read from the front: a reader answers what it has read and the tokens after that, or
-- the first fault. Here are the readers of single tokens; the grammar of SPRU018, linker description, is in
-- the files that use them.
use Rattle.std.specs.Prelude.{◌≡◌, ℕ, zero, suc, ◌==◌, ◌≤◌, Bool, true, false, List, [], ◌∷◌, length, drop, Option, Some, None, ok_or, Result, Ok, Err, nat_lt, if◌then◌else◌}
use Rattle.c25_meaning_linking.specs.declared.command_token.Sign.{Sign}
use Rattle.c25_meaning_linking.specs.declared.command_token.Sign.TheVariants as sign
use Rattle.c25_meaning_linking.specs.declared.command_token.Keyword.{Keyword}
use Rattle.c25_meaning_linking.specs.declared.command_token.Keyword.TheVariants as keyword
use Rattle.c25_meaning_linking.specs.declared.command_token.Kind.{Kind}
use Rattle.c25_meaning_linking.specs.declared.command_token.Kind.TheVariants as kind
use Rattle.c25_meaning_linking.specs.declared.command_token.Want.{Want}
use Rattle.c25_meaning_linking.specs.declared.command_token.Want.TheVariants as want
use Rattle.c25_meaning_linking.specs.declared.command_fault.CommandFault.{CommandFault}
use Rattle.c25_meaning_linking.specs.declared.command_fault.CommandFault.TheVariants.{Syntax}
use Rattle.c25_meaning_common.specs.declared.placed.Placed.{Placed}
use Rattle.c25_meaning_linking.specs.CommandTokens.{Token}
use Rattle.c25_meaning_common.specs.Results.{◌>>=◌}

-- what a reader answers: a value and the tokens after it, or a fault and the byte where its token begins
abbrev pub Reading : Type 0 → Type 0
Reading A = Result (A × List Token) (Placed ℕ CommandFault)

-- a fault at the first token
abbrev pub fault_at : CommandFault → List Token → Placed ℕ CommandFault
fault_at fault [] = record { place = 0; fault = fault }
fault_at fault (t ∷ ts) = record { place = t.place; fault = fault }

-- a fault at the first token, if the test holds
abbrev pub fault_if : Bool → CommandFault → List Token → Result (Unit {0}) (Placed ℕ CommandFault)
fault_if test fault ts = if test then Err (fault_at fault ts) else Ok tt

-- a number for each sign, by which signs are compared
abbrev pub sign_number : Sign → ℕ
sign_number sign.OpenBrace = 0
sign_number sign.CloseBrace = 1
sign_number sign.OpenParenthesis = 2
sign_number sign.CloseParenthesis = 3
sign_number sign.Colon = 4
sign_number sign.Comma = 5
sign_number sign.Equals = 6
sign_number sign.Greater = 7
sign_number sign.Star = 8

-- a number for each keyword, by which keywords are compared
abbrev pub keyword_number : Keyword → ℕ
keyword_number keyword.Memory = 0
keyword_number keyword.Sections = 1
keyword_number keyword.Page = 2
keyword_number keyword.Origin = 3
keyword_number keyword.Length = 4
keyword_number keyword.Load = 5
keyword_number keyword.Run = 6

-- whether a token of this kind is what is wanted
abbrev pub passes : Want → Kind → Bool
passes (want.Sign s) (kind.Sign t) = sign_number s == sign_number t
passes (want.Keyword k) (kind.Keyword l) = keyword_number k == keyword_number l
passes want.Name kind.Name = true
passes want.AnyWord kind.Name = true
passes want.AnyWord kind.Malformed = true
passes want.AnyWord (kind.Number n) = true
passes want.AnyWord (kind.Keyword k) = true
passes want.LoadSign (kind.Sign sign.Equals) = true
passes want.LoadSign (kind.Sign sign.Greater) = true
passes want.End kind.End = true
passes _ _ = false

-- whether the first token is what is wanted
abbrev pub begins : Want → List Token → Bool
begins w [] = false
begins w (t ∷ ts) = passes w t.kind

-- a token that must stand here
unfoldable pub wanted : Want → List Token → Reading Token
wanted w [] = Err (fault_at Syntax [])
wanted w (t ∷ ts) = if passes w t.kind then Ok (t, ts) else Err (fault_at Syntax (t ∷ ts))

-- the tokens without the first one, if that is what is wanted; else all of them
abbrev pub past : Want → List Token → List Token
past w ts = if begins w ts then drop 1 ts else ts

-- one item after another, until the token that ends them or until `n` have been read
unfoldable pub repeated : {S : Type 0} → Want → (S → List Token → Reading S) → ℕ → S → List Token → Reading S
repeated last one zero s ts = Ok (s, ts)
repeated last one (suc n) s ts = if begins last ts then Ok (s, ts) else (do
  next ← one s ts
  repeated last one n next.0 next.1)

-- at most `n` items, and the token that ends them
abbrev pub at_most : {S : Type 0} → ℕ → Want → (S → List Token → Reading S) → S → List Token → Reading S
at_most n last one s ts = do
  all ← repeated last one n s ts
  end ← wanted last all.1
  Ok (all.0, end.1)

-- all items and the token that ends them: there are no more items than tokens
abbrev pub up_to : {S : Type 0} → Want → (S → List Token → Reading S) → S → List Token → Reading S
up_to last one s ts = at_most (length ts) last one s ts

-- the number of tokens is enough as a count: any larger count gives the same
abbrev pub CountIsEnough : {S : Type 0} → Want → (S → List Token → Reading S) → Type 0
CountIsEnough {S} last one = (n : ℕ) (s : S) (ts : List Token) → length ts ≤ n → at_most n last one s ts ≡ up_to last one s ts

-- the value of a token that is a number
abbrev pub number_of_kind : Kind → Option ℕ
number_of_kind (kind.Number n) = Some n
number_of_kind _ = None

-- a number that must stand here
unfoldable pub number_at : List Token → Reading ℕ
number_at [] = Err (fault_at Syntax [])
number_at (t ∷ ts) = ok_or (number_of_kind t.kind) (fault_at Syntax (t ∷ ts)) >>= λ n. Ok (n, ts)

-- the number of a page: 0 or 1
unfoldable pub page_number_at : List Token → Reading ℕ
page_number_at ts = do
  n ← number_at ts
  checked ← fault_if (nat_lt 1 n.0) Syntax ts
  Ok n

-- `keyword =`: the tokens after it
unfoldable pub setting_at : Keyword → List Token → Result (List Token) (Placed ℕ CommandFault)
setting_at k ts = do
  key ← wanted (want.Keyword k) ts
  equals ← wanted (want.Sign sign.Equals) key.1
  Ok equals.1
