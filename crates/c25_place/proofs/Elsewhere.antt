-- Words at which sections run that run elsewhere than they are loaded.
use Rattle.std.proofs.Common.{◌≡◌, ℕ, ◌+◌, ◌≤◌, Bool, true, false, ◌&&◌, ◌||◌, ltb, leb, List, [], ◌∷◌, ◌++◌, length, get_or, Option, Some, None, IfSome, sym, ap, subst, ◌∙◌, arith, replicate}
use Rattle.std.specs.Option.{option_map_or}
use Rattle.std.proofs.lemmas.List.{get_or-replicate, length-replicate}
use Rattle.std.proofs.lemmas.List.Folds.{list_any-append}
use Rattle.c25_meaning_linking.specs.Command.{RangeData}
use Rattle.c25_meaning_linking.specs.GoodMap.{Request, RunsAt, Runs, page_for, runs_at, is_run_at, IsRunFree}
use Rattle.c25_meaning_linking.specs.Place.{Place}
use Rattle.c25_place.specs.Placement.{AreWords}
use Rattle.c25_place.specs.Room.{KnowsRuns, AreFree}
use Rattle.c25_place.specs.declared.runs.RunWords.{RunWords}
use Rattle.c25_place.proofs.Sized.{or_false}

-- ---- free words

-- words that are not marked are those that no place runs at
pub run_free_of : (r : RunWords) (run size : ℕ) (places : List Place) → KnowsRuns r places → run + size ≤ 65536 → AreFree r.taken.items run size → IsRunFree run size places
run_free_of r run size places k le free = λ word c. sym (k.words word (omega (arith, c.upto))) ∙ free word c

pub run_unmarked : (r : RunWords) (run size : ℕ) (places : List Place) → KnowsRuns r places → run + size ≤ 65536 → IsRunFree run size places → AreFree r.taken.items run size
run_unmarked r run size places k le free = λ word c. k.words word (omega (arith, c.upto)) ∙ free word c

-- ---- marks of places

pub runs_none : (r : RunWords) → r.taken.items ≡ replicate 65536 false → KnowsRuns r []
runs_none r e = record {
  sized = ap length e ∙ length-replicate 65536 false;
  words = λ word lt. ap (λ (t : List Bool). get_or t word false) e ∙ get_or-replicate 65536 word false false lt;
}

abbrev runs_by : ℕ → ℕ → Option ℕ → Bool
runs_by word size run = option_map_or (λ n. leb n word && ltb word (n + size)) run false

same_runs : (word size : ℕ) (run : Option ℕ) (p : Place) → p.run ≡ run → p.size ≡ size → runs_by word size run ≡ runs_at word p
same_runs word size run p a b = ap (λ (o : Option ℕ). runs_by word size o) (sym a) ∙ ap (λ (n : ℕ). runs_by word n p.run) (sym b)

-- a place more, whose words are marked if it runs elsewhere
runs_next : (old new : RunWords) (run : Option ℕ) (size : ℕ) (places : List Place) (p : Place) → KnowsRuns old places → length new.taken.items ≡ length old.taken.items
    → ((k : ℕ) → get_or new.taken.items k false ≡ (get_or old.taken.items k false || runs_by k size run)) → p.run ≡ run → p.size ≡ size → KnowsRuns new (places ++ p ∷ [])
runs_next old new run size places p k sized marks a b = record {
  sized = sized ∙ k.sized;
  words = λ word lt.
      marks word ∙ ap (λ t. t || runs_by word size run) (k.words word lt) ∙ ap (λ t. is_run_at places word || t) (same_runs word size run p a b ∙ sym (or_false (runs_at word p)))
      ∙ sym (list_any-append (runs_at word) places (p ∷ []));
}

-- one that runs elsewhere
pub runs_more : (old new : RunWords) (run size : ℕ) (places : List Place) (p : Place) → KnowsRuns old places → length new.taken.items ≡ length old.taken.items
    → ((k : ℕ) → get_or new.taken.items k false ≡ (get_or old.taken.items k false || (leb run k && ltb k (run + size)))) → p.run ≡ Some run → p.size ≡ size → KnowsRuns new (places ++ p ∷ [])
runs_more old new run size places p k sized marks a b = runs_next old new (Some run) size places p k sized marks a b

-- one that runs where it is loaded
pub runs_same : (old new : RunWords) (size : ℕ) (places : List Place) (p : Place) → KnowsRuns old places → new.taken.items ≡ old.taken.items → p.run ≡ None → p.size ≡ size → KnowsRuns new (places ++ p ∷ [])
runs_same old new size places p k same a b = runs_next old new None size places p k (ap length same) (λ word. ap (λ (t : List Bool). get_or t word false) same ∙ sym (or_false (get_or old.taken.items word false))) a b

-- ---- whether a section may run where the command says

-- so many words of block B0 from an address on, at which no place runs
abbrev pub AreOpen : ℕ → ℕ → List Place → Type 0
AreOpen run size places = (0xFF00 ≤ run) × (run ≤ 0xFFFF) × (run + size ≤ 0x10000) × IsRunFree run size places

pub runs_there : (ranges : List RangeData) (places : List Place) (r : Request) (run page : ℕ) → r.run ≡ Some run → page ≡ page_for ranges r → page ≡ 0 → r.initialised ≡ true → AreOpen run r.size places → Runs ranges places r
runs_there ranges places r run page is here first full open_there =
    subst (λ (o : Option ℕ). IfSome o (RunsAt ranges places r)) (sym is) (record {
      from = open_there.0;
      below = open_there.1;
      upto = open_there.2;
      initialised = full;
      page = sym here ∙ first;
      free = open_there.3;
    })

pub open_for : (ranges : List RangeData) (places : List Place) (r : Request) (run : ℕ) → r.run ≡ Some run → Runs ranges places r → AreOpen run r.size places
open_for ranges places r run is runs =
    let at : RunsAt ranges places r run = subst (λ (o : Option ℕ). IfSome o (RunsAt ranges places r)) is runs in
    (at.from, at.below, at.upto, at.free)

pub words_there : (run : Option ℕ) (n size : ℕ) (places : List Place) → run ≡ Some n → AreOpen n size places → IfSome run (AreWords size)
words_there run n size places is open_there = subst (λ (o : Option ℕ). IfSome o (AreWords size)) (sym is) (record { first = omega (arith, open_there.1); last = open_there.2 })
