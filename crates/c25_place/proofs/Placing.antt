-- Sections placed one after the other.
use Rattle.std.proofs.Common.{◌≡◌, ℕ, List, [], ◌∷◌, ◌++◌, Result, Ok, Err, inr, reverse, filter, refl, sym, ap, subst, String}
use Rattle.std.specs.declared.alloc.Global.{Global}
use Rattle.std.proofs.lemmas.List.{reverse-append, reverse-reverse}
use Rattle.c25_meaning_linking.specs.Command.{RangeData}
use Rattle.c25_meaning_linking.specs.GoodMap.{Request, Stands, Stand, ArePlaced, IsBase, IsBaseOf, IsUnfit, Runs, is_usable, page_for}
use Rattle.c25_meaning_linking.specs.Place.{Place}
use Rattle.c25_meaning_linking.specs.declared.link_fault.LinkFault.{LinkFault}
use Rattle.c25_meaning_linking.specs.declared.link_fault.LinkFault.TheVariants.{BadRun}
use Rattle.c25_meaning_common.specs.declared.failure.Failure.{Failure}
use Rattle.c25_meaning_common.specs.declared.failure.Failure.TheVariants.{Fault}
use Rattle.c25_meaning_common.specs.declared.placed.Placed.{Placed}
use Rattle.c25_place.specs.Placement.{IsPlacedNext, IsPlacedOrRefused, IsRefused, IsRefusedAfter}
use Rattle.c25_place.specs.View.{refusal_of}

-- one section more
pub placed_next : (ranges : List RangeData) (requests : List Request) (before after : List Place) (r : Request)
    → ArePlaced ranges requests before → IsPlacedNext ranges before after r → ArePlaced ranges (requests ++ r ∷ []) after
placed_next ranges requests before after r placed next =
    subst (λ ps. Stand ranges (reverse (requests ++ r ∷ [])) (reverse ps)) (sym next.after_is)
    (subst (λ rs. Stand ranges rs (reverse (before ++ next.place ∷ []))) (sym (reverse-append requests (r ∷ [])))
    (subst (λ ps. Stand ranges (r ∷ reverse requests) ps) (sym (reverse-append before (next.place ∷ []))) (first, placed)))
  where
    first : Stands ranges (reverse (reverse before)) r next.place
    first = subst (λ ps. Stands ranges ps r next.place) (sym (reverse-reverse before)) next.stands

-- a section that is not placed has a fault
pub refused_by : (ranges : List RangeData) (before after : List Place) (r : Request) (e : Failure (Placed (String Global) LinkFault)) (f : Placed (String Global) LinkFault)
    → IsPlacedOrRefused ranges before after r (Err e) → e ≡ Fault f → IsRefused ranges before r (refusal_of f)
refused_by ranges before after r e f h is = subst (λ (x : Failure (Placed (String Global) LinkFault)). IsPlacedOrRefused ranges before after r (Err x)) is h

-- the first that cannot be placed
pub refused : (ranges : List RangeData) (requests rest : List Request) (before after : List Place) (r : Request) (refusal : Placed (List ℕ) LinkFault)
    → ArePlaced ranges requests before → IsRefused ranges before r refusal → after ≡ before → IsRefusedAfter ranges (requests ++ r ∷ rest) after refusal
refused ranges requests rest before after r refusal placed h kept = record {
  before = requests;
  refused = r;
  after = rest;
  requests_are = refl;
  placed = subst (λ ps. ArePlaced ranges requests ps) (sym kept) placed;
  is_refused = subst (λ ps. IsRefused ranges ps r refusal) (sym kept) h;
}

-- the base among the ranges that the section may stand in
pub base_of_is : (ranges usable : List RangeData) (places : List Place) (r : Request) (page : ℕ) (answer : Result ℕ LinkFault)
    → page ≡ page_for ranges r → usable ≡ filter (is_usable r.target page) ranges → IsBase r.target page r.size r.blocks usable places answer → IsBaseOf ranges places r answer
base_of_is ranges usable places r page answer is are base =
    subst (λ n. IsBase r.target n r.size r.blocks (filter (is_usable r.target n) ranges) places answer) is (subst (λ rs. IsBase r.target page r.size r.blocks rs places answer) are base)

-- a section that can be loaded and cannot run where the command says
pub bad_run : (ranges : List RangeData) (places : List Place) (r : Request) (base : ℕ) → IsBaseOf ranges places r (Ok base) → ¬ Runs ranges places r → IsUnfit ranges places r BadRun
bad_run ranges places r base stands not_there = inr (base, stands, not_there, refl)

-- a refusal with its fault and its name
pub refused_is : (ranges : List RangeData) (before : List Place) (r : Request) (f : Placed (List ℕ) LinkFault) (fault : LinkFault) → f ≡ record { place = r.name; fault = fault } → IsUnfit ranges before r fault → IsRefused ranges before r f
refused_is ranges before r f fault e h = record {
  fault_is = subst (λ (x : LinkFault). IsUnfit ranges before r x) (sym (ap (λ (g : Placed (List ℕ) LinkFault). g.fault) e)) h;
  name_is = ap (λ (g : Placed (List ℕ) LinkFault). g.place) e;
}
