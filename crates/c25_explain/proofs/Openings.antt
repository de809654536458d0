-- Lines that led to a fault, one after another, and the first source that is refused.
use Rattle.std.proofs.Common.{◌≡◌, ℕ, ◌+◌, ◌<◌, ◌≤◌, List, [], ◌∷◌, ◌++◌, Bor, IfOk, inl, inr, length, drop, get_or, subst, sym}
use Rattle.std.proofs.lemmas.List.{at_drop_all, at_drop_more, drop_more}
use Rattle.std.specs.Option.{option_map}
use Rattle.std.specs.Prelude.{Option, Result, Ok, Err}
use Rattle.c25_asm.specs.Seen.{Seen, seen_of}
use Rattle.c25_asm.specs.Trails.{IsTrail, IsWhole}
use Rattle.c25_asm.specs.declared.tracing.Refused.{Refused}
use Rattle.c25_macro.specs.Tracers.{fault_in}
use Rattle.c25_meaning_common.specs.declared.failure.Failure.{Failure}
use Rattle.c25_meaning_expansion.specs.Files.{Files}
use Rattle.c25_meaning_common.specs.declared.placed.FileLine.{FileLine}
use Rattle.c25_meaning_language.specs.ExpansionFault.{ExpansionFault}
use Rattle.c25_options.specs.Task.{texts_of}
use Rattle.c25_explain.specs.Trails.{IsFirstTrail, opening_text, openings_text}
use Rattle.c25_explain.specs.declared.trails.NoTrail.{NoTrail}

pub openings_more : (files : Files) (places : List (FileLine ℕ)) (i : ℕ) (d : FileLine ℕ) → i < length places
    → openings_text files (drop i places) ≡ opening_text files (get_or places i d) ++ openings_text files (drop (i + 1) places)
openings_more files places i d h = at_drop_more (openings_text files) places i d h

pub openings_none : (files : Files) (places : List (FileLine ℕ)) (i : ℕ) → length places ≤ i → openings_text files (drop i places) ≡ []
openings_none files places i h = at_drop_all (openings_text files) places i h

-- ---- sources in their order

module _ (files : Files) (sources : List (Bor (List ℕ))) (i : ℕ) (d : Bor (List ℕ)) (fault : ExpansionFault) (within : i < length sources) where
  onto : (trail : List (FileLine ℕ)) (seen : Option Seen) → IsFirstTrail files ((get_or sources i d).now ∷ texts_of (drop (i + 1) sources)) fault trail seen
      → IsFirstTrail files (texts_of (drop i sources)) fault trail seen
  onto trail seen h = subst (λ (l : List (Bor (List ℕ))). IsFirstTrail files (texts_of l) fault trail seen) (sym (drop_more sources i d within)) h

  -- one that is assembled
  pub behind : (trail : List (FileLine ℕ)) (seen : Option Seen) → IsWhole files (get_or sources i d).now → IsFirstTrail files (texts_of (drop (i + 1) sources)) fault trail seen
      → IsFirstTrail files (texts_of (drop i sources)) fault trail seen
  behind trail seen whole h = onto trail seen (inr (whole, h))

  -- one that is refused
  pub refused_here : (refused : Refused) (result : Result Refused (Failure NoTrail)) → IsTrail files (get_or sources i d).now (fault_in refused.fault) refused.trail.items (option_map seen_of refused.seen)
      → IfOk result (λ r. (fault_in refused.fault ≡ fault) × (r ≡ refused))
      → ((trail : List (FileLine ℕ)) (seen : Option Seen) → IsFirstTrail files (texts_of (drop i sources)) fault trail seen → IsFirstTrail files (texts_of sources) fault trail seen)
      → IfOk result (λ r. IsFirstTrail files (texts_of sources) fault r.trail.items (option_map seen_of r.seen))
  refused_here refused (Ok r) traced (same, is) first =
      subst (λ (x : Refused). IsFirstTrail files (texts_of sources) fault x.trail.items (option_map seen_of x.seen)) (sym is)
      (first refused.trail.items (option_map seen_of refused.seen) (onto refused.trail.items (option_map seen_of refused.seen)
      (inl (subst (λ (f : ExpansionFault). IsTrail files (get_or sources i d).now f refused.trail.items (option_map seen_of refused.seen)) same traced))))
  refused_here refused (Err e) traced told first = tt
