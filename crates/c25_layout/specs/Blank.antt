-- Which erased words of an image may be left out: those of long runs of such words.
use Rattle.std.specs.Prelude.{◌≡◌, ℕ, ◌+◌, ◌<◌, ◌≤◌, Bool, true, List, Some}
use Rattle.std.specs.FinMap as finite
use Rattle.std.specs.List.{slice_get}
use Rattle.std.specs.Ordering.{nat_cmp}

-- an image has FFFFh at an address, as an erased EPROM has it
abbrev pub IsErased : finite.FinMap nat_cmp ℕ → ℕ → Type 0
IsErased image address = finite.get image address ≡ Some 65535

-- an address of an image is one of so many erased words, one after the other
pub record IsBlank (image : finite.FinMap nat_cmp ℕ) (blank address : ℕ) : Type 0 where
  pub from : ℕ
  pub begins : from ≤ address
  pub ends : address < from + blank
  pub inside : from + blank ≤ 65536
  pub erased : (a : ℕ) → from ≤ a → a < from + blank → IsErased image a

-- ---- what is found on the way

-- so many erased words stand directly before an address
pub record StandBefore (image : finite.FinMap nat_cmp ℕ) (address before : ℕ) : Type 0 where
  pub room : before ≤ address
  pub erased : (a : ℕ) → address ≤ a + before → a < address → IsErased image a
  pub begun : (a : ℕ) → a + before + 1 ≡ address → IsErased image a → ⊥

-- the erased words from an address on end at another
pub record EndAt (image : finite.FinMap nat_cmp ℕ) (address end : ℕ) : Type 0 where
  pub forward : address ≤ end
  pub inside : end ≤ 65536
  pub erased : (a : ℕ) → address ≤ a → a < end → IsErased image a
  pub ended : end < 65536 → IsErased image end → ⊥

-- each address that is marked is one of so many erased words, one after the other
abbrev pub AreBlank : finite.FinMap nat_cmp ℕ → ℕ → List Bool → Type 0
AreBlank image blank marks = (address : ℕ) → slice_get marks address ≡ Some true → IsBlank image blank address
