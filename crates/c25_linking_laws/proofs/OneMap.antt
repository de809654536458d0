-- There is at most one good map.
use Rattle.std.proofs.Common.{◌≡◌, ℕ, List, [], ◌∷◌, ◌++◌, Ok, reverse, All, refl, sym, ap, ◌∙◌, subst, arith, ⊎_elim}
use Rattle.std.proofs.lemmas.List.Elements.{All-head, All-tail}
use Rattle.std.proofs.lemmas.Bool.{cases_lt}
use Rattle.std.proofs.lemmas.List.{reverse-reverse}
use Rattle.c25_meaning_linking.specs.Command.{RangeData, TargetData, Anywhere, InRange, At}
use Rattle.c25_meaning_linking.specs.Place.{Place, BlockData}
use Rattle.c25_meaning_linking.specs.GoodMap.{Request, IsLeastFit, NoneFits, IsFirstFit, IsBase, IsBaseIn, Stands, Stand, ArePlaced, usable, page_for}

least_once : (page size : ℕ) (blocks : List BlockData) (range : RangeData) (places : List Place) (a b : ℕ) → IsLeastFit page size blocks range places a → IsLeastFit page size blocks range places b → a ≡ b
least_once page size blocks range places a b x y = omega (arith, x.least b y.fits, y.least a x.fits)

-- a list cut at its first range that has an address
first_once : (page size : ℕ) (blocks : List BlockData) (places : List Place) (before after other rest : List RangeData) (range s : RangeData) (a b : ℕ) → before ++ range ∷ after ≡ other ++ s ∷ rest → All (NoneFits page size blocks places) before → All (NoneFits page size blocks places) other → IsLeastFit page size blocks range places a → IsLeastFit page size blocks s places b → a ≡ b
first_once page size blocks places [] after [] rest range s a b e none others x y =
    let same : s ≡ range = cc in
    least_once page size blocks range places a b x (subst (λ r. IsLeastFit page size blocks r places b) same y)
first_once page size blocks places [] after (o ∷ other) rest range s a b e none others x y =
    let same : o ≡ range = cc in
    absurd (subst (NoneFits page size blocks places) same (All-head (NoneFits page size blocks places) o other others) a x.fits)
first_once page size blocks places (f ∷ before) after [] rest range s a b e none others x y =
    let same : f ≡ s = cc in
    absurd (subst (NoneFits page size blocks places) same (All-head (NoneFits page size blocks places) f before none) b y.fits)
first_once page size blocks places (f ∷ before) after (o ∷ other) rest range s a b e none others x y =
    let more : before ++ range ∷ after ≡ other ++ s ∷ rest = cc in
    first_once page size blocks places before after other rest range s a b more (All-tail (NoneFits page size blocks places) f before none) (All-tail (NoneFits page size blocks places) o other others) x y

fit_once : (page size : ℕ) (blocks : List BlockData) (ranges : List RangeData) (places : List Place) (a b : ℕ) → IsFirstFit page size blocks ranges places a → IsFirstFit page size blocks ranges places b → a ≡ b
fit_once page size blocks ranges places a b x y = first_once page size blocks places x.before x.after y.before y.after x.range y.range a b (sym x.ranges_are ∙ y.ranges_are) x.none_before y.none_before x.least y.least

in_once : (page size : ℕ) (blocks : List BlockData) (first : RangeData) (ranges : List RangeData) (places : List Place) (a b : ℕ) → IsBaseIn page size blocks first ranges places (Ok a) → IsBaseIn page size blocks first ranges places (Ok b) → a ≡ b
in_once page size blocks first ranges places a b x y =
    ⊎_elim (λ some. fit_once page size blocks ranges places a b (x.1 some) (y.1 some)) (λ none. x.0 (omega arith) ∙ sym (y.0 (omega arith))) (cases_lt 0 size)

pub base_once : (target : TargetData) (page size : ℕ) (blocks : List BlockData) (ranges : List RangeData) (places : List Place) (a b : ℕ) → IsBase target page size blocks ranges places (Ok a) → IsBase target page size blocks ranges places (Ok b) → a ≡ b
base_once target page size blocks [] places a b x y = cc
base_once Anywhere page size blocks (r ∷ rs) places a b x y = in_once page size blocks r (r ∷ rs) places a b x y
base_once (InRange name) page size blocks (r ∷ rs) places a b x y = in_once page size blocks r (r ∷ rs) places a b x y
base_once (At address) page size blocks (r ∷ rs) places a b x y = x.0 ∙ sym y.0

same_place : (p q : Place) → p.name ≡ q.name → p.page ≡ q.page → p.base ≡ q.base → p.size ≡ q.size → p.run ≡ q.run → p ≡ q
same_place p q n g b l r = λ i. record { name = n i; page = g i; base = b i; size = l i; run = r i }

stands_once : (ranges : List RangeData) (places : List Place) (r : Request) (p q : Place) → Stands ranges places r p → Stands ranges places r q → p ≡ q
stands_once ranges places r p q x y =
    same_place p q (x.name_is ∙ sym y.name_is) (x.page_is ∙ sym y.page_is) (base_once r.target (page_for ranges r) r.size r.blocks (usable ranges r) places p.base q.base x.base_is y.base_is) (x.size_is ∙ sym y.size_is) (x.run_is ∙ sym y.run_is)

stand_once : (ranges : List RangeData) (requests : List Request) (ps qs : List Place) → Stand ranges requests ps → Stand ranges requests qs → ps ≡ qs
stand_once ranges [] [] [] x y = refl
stand_once ranges [] [] (q ∷ qs) x y = absurd y
stand_once ranges [] (p ∷ ps) qs x y = absurd x
stand_once ranges (r ∷ rs) [] qs x y = absurd x
stand_once ranges (r ∷ rs) (p ∷ ps) [] x y = absurd y
stand_once ranges (r ∷ rs) (p ∷ ps) (q ∷ qs) x y =
    let rest = stand_once ranges rs ps qs x.1 y.1 in
    let same : p ≡ q = stands_once ranges (reverse ps) r p q x.0 (subst (λ zs. Stands ranges (reverse zs) r q) (sym rest) y.0) in
    cc

pub placed_once : (ranges : List RangeData) (requests : List Request) (ps qs : List Place) → ArePlaced ranges requests ps → ArePlaced ranges requests qs → ps ≡ qs
placed_once ranges requests ps qs x y =
    sym (reverse-reverse ps) ∙ ap reverse (stand_once ranges (reverse requests) (reverse ps) (reverse qs) x y) ∙ reverse-reverse qs
