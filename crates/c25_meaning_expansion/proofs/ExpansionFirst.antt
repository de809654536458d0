-- The first rewriting that does not merely go on: it is the only one, it can be computed, and it stays in bounds.
use Rattle.std.proofs.Common.{◌≡◌, ℕ, zero, suc, ◌<◌, ◌≤◌, List, [], ◌∷◌, ◌++◌, refl, ap, sym, ◌∙◌, subst, arith}
use Rattle.c25_meaning_language.specs.Value.{Table}
use Rattle.c25_meaning_expansion.specs.Files.{Files}
use Rattle.c25_meaning_expansion.specs.Rows.{Row}
use Rattle.c25_meaning_expansion.specs.Expansion.{Config, Rewriting, Gives, Goes, Finishes, Faults, Misses}
use Rattle.c25_meaning_expansion.specs.ExpansionRuns.{rewrite, Leads, ComesTo, weight, go_on, last_within, first}
use Rattle.c25_meaning_expansion.specs.ExpansionBounds.{IsLast, IsBounded, Gave, more, line}
use Rattle.c25_meaning_expansion.proofs.ExpansionFalls.{falls_going, falls_giving, given_was_read, same_finishing}

go_on_same : (r : Rewriting) (f g : Config → Rewriting) → ((d : Config) → r ≡ Goes d → f d ≡ g d) → go_on r f ≡ go_on r g
go_on_same (Goes d) f g h = h d refl
go_on_same (Gives row d) f g h = refl
go_on_same (Finishes d) f g h = refl
go_on_same (Faults place kind) f g h = refl
go_on_same (Misses place name) f g h = refl

go_on_none : (r : Rewriting) (f : Config → Rewriting) → ((d : Config) → r ≡ Goes d → ⊥) → r ≡ go_on r f
go_on_none (Goes d) f h = absurd (h d refl)
go_on_none (Gives row d) f h = refl
go_on_none (Finishes d) f h = refl
go_on_none (Faults place kind) f h = refl
go_on_none (Misses place name) f h = refl

last_stays : (r : Rewriting) (f : Config → Rewriting) → IsLast r → go_on r f ≡ r
last_stays (Goes d) f h = absurd h
last_stays (Gives row d) f h = refl
last_stays (Finishes d) f h = refl
last_stays (Faults place kind) f h = refl
last_stays (Misses place name) f h = refl

if_never : (r : Rewriting) → ((d : Config) → r ≡ Goes d → ⊥) → IsLast r
if_never (Goes d) h = absurd (h d refl)
if_never (Gives row d) h = tt
if_never (Finishes d) h = tt
if_never (Faults place kind) h = tt
if_never (Misses place name) h = tt

if_after : (r : Rewriting) (f : Config → Rewriting) → ((d : Config) → r ≡ Goes d → IsLast (f d)) → IsLast (go_on r f)
if_after (Goes d) f h = h d refl
if_after (Gives row d) f h = tt
if_after (Finishes d) f h = tt
if_after (Faults place kind) f h = tt
if_after (Misses place name) f h = tt

-- no more may be read, and what was in bounds is
pub record Stays (c d : Config) : Type 0 where
  pub left : d.left ≤ c.left
  pub bounded : IsBounded c → IsBounded d

module _ (files : Files) (s : Table) where
  -- no more rewritings are needed than the weight says
  enough : (m k : ℕ) (c : Config) → weight c ≤ m → weight c ≤ k → last_within files s m c ≡ last_within files s k c
  unfolding last_within
  enough zero zero c h i = refl
  enough zero (suc k) c h i = go_on_none (rewrite files s c) _ (λ d e. omega (arith, (falls_going files s c d e).weighs_less))
  enough (suc m) zero c h i = sym (go_on_none (rewrite files s c) _ (λ d e. omega (arith, (falls_going files s c d e).weighs_less)))
  enough (suc m) (suc k) c h i = go_on_same (rewrite files s c) _ _ (λ d e. enough m k d (omega (arith, (falls_going files s c d e).weighs_less)) (omega (arith, (falls_going files s c d e).weighs_less)))

  -- one rewriting that goes on leaves the first that does not
  pub first_going : (c d : Config) → rewrite files s c ≡ Goes d → first files s c ≡ first files s d
  unfolding first last_within
  first_going c d e =
      enough (weight c) (suc (weight c)) c (omega arith) (omega arith) ∙ (ap (λ r. go_on r (last_within files s (weight c))) e
      ∙ enough (weight c) (weight d) d (omega (arith, (falls_going files s c d e).weighs_less)) (omega arith))

  -- many rewritings that go on leave the first that does not
  pub first_along : (n : ℕ) (old c : Config) → Leads files s n old c → first files s old ≡ first files s c
  first_along zero old c h = ap (first files s) h
  first_along (suc n) old c h = first_along n old h.0 h.1 ∙ first_going h.0 c h.2

  -- Expansion has one result, and it can be computed.
  pub comes_to_first : (old : Config) (r : Rewriting) → ComesTo files s old r → IsLast r → first files s old ≡ r
  unfolding first last_within
  comes_to_first old r h last =
      first_along h.0 old h.1 h.2 ∙ (enough (weight h.1) (suc (weight h.1)) h.1 (omega arith) (omega arith)
      ∙ (ap (λ x. go_on x (last_within files s (weight h.1))) h.3 ∙ last_stays r _ last))

  -- ---- the first itself

  pub leads_before : (n : ℕ) (c d last : Config) → rewrite files s c ≡ Goes d → Leads files s n d last → Leads files s (suc n) c last
  leads_before zero c d last e h = (c, refl, e ∙ ap Goes h)
  leads_before (suc n) c d last e (mid, before, goes_on) = (mid, leads_before n c d mid e before, goes_on)

  comes_by : (c : Config) (f : Config → Rewriting) → ((d : Config) → ComesTo files s d (f d)) → (r : Rewriting) → rewrite files s c ≡ r → ComesTo files s c (go_on r f)
  comes_by c f h (Goes d) e = (suc (h d).0, (h d).1, leads_before (h d).0 c d (h d).1 e (h d).2, (h d).3)
  comes_by c f h (Gives row d) e = (zero, c, refl, e)
  comes_by c f h (Finishes d) e = (zero, c, refl, e)
  comes_by c f h (Faults place kind) e = (zero, c, refl, e)
  comes_by c f h (Misses place name) e = (zero, c, refl, e)

  last_reached : (n : ℕ) (c : Config) → ComesTo files s c (last_within files s n c)
  unfolding last_within
  last_reached zero c = (zero, c, refl, refl)
  last_reached (suc n) c = comes_by c (last_within files s n) (last_reached n) (rewrite files s c) refl

  -- `first` is reached by rewritings that go on
  pub first_reached : (c : Config) → ComesTo files s c (first files s c)
  unfolding first
  first_reached c = last_reached (weight c) c

  last_is_last : (n : ℕ) (c : Config) → weight c ≤ n → IsLast (last_within files s n c)
  unfolding last_within
  last_is_last zero c h = if_never (rewrite files s c) (λ d e. omega (arith, (falls_going files s c d e).weighs_less))
  last_is_last (suc n) c h = if_after (rewrite files s c) _ (λ d e. last_is_last n d (omega (arith, (falls_going files s c d e).weighs_less)))

  -- `first` does not merely go on
  pub first_is_last : (c : Config) → IsLast (first files s c)
  unfolding first
  first_is_last c = last_is_last (weight c) c (omega arith)

  -- ---- bounds

  -- bounds stay along rewritings that go on
  pub stays_along : (n : ℕ) (old new : Config) → Leads files s n old new → Stays old new
  stays_along zero old new h = subst (Stays old) h (record { left = omega arith; bounded = λ bounds. bounds })
  stays_along (suc n) old new (mid, before, goes_on) =
      let so_far = stays_along n old mid before in
      let falls = falls_going files s mid new goes_on in
      record { left = omega (arith, so_far.left, falls.left); bounded = λ bounds. falls.bounded (so_far.bounded bounds) }

  -- where a line is given, it was read, and what was in bounds is
  pub first_giving : (c d : Config) (row : Row) → first files s c ≡ Gives row d → Stays c d × (d.left < c.left)
  first_giving c d row e =
      let reached = first_reached c in
      let so_far = stays_along reached.0 c reached.1 reached.2 in
      let falls = falls_giving files s reached.1 d row (reached.3 ∙ e) in
      let read = given_was_read files s reached.1 d row (reached.3 ∙ e) in
      (record { left = omega (arith, so_far.left, falls.left); bounded = λ bounds. falls.bounded (so_far.bounded bounds) }, omega (arith, so_far.left, read))

  -- bounds stay at the end
  pub first_finishing : (c d : Config) → first files s c ≡ Finishes d → Stays c d
  first_finishing c d e =
      let reached = first_reached c in
      subst (Stays c) (sym (same_finishing files s reached.1 d (reached.3 ∙ e))) (stays_along reached.0 c reached.1 reached.2)

  -- ---- the lines given

  gave_along : (n : ℕ) (start old new : Config) (rows : List Row) → Gave files start rows old → Leads files s n old new → Gave files start rows new
  gave_along zero start old new rows gave h = subst (Gave files start rows) h gave
  gave_along (suc n) start old new rows gave (mid, before, goes_on) = more s (gave_along n start old mid rows gave before) goes_on

  -- the next line given is that of the first
  pub gave_first : (start c d : Config) (rows : List Row) (row : Row) → Gave files start rows c → first files s c ≡ Gives row d → Gave files start (rows ++ row ∷ []) d
  gave_first start c d rows row gave e =
      let reached = first_reached c in
      line s (gave_along reached.0 start c reached.1 rows gave reached.2) (reached.3 ∙ e)
