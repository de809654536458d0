-- Names in their order, and sources in theirs.
use Rattle.std.proofs.Common.{◌≡◌, ℕ, ◌+◌, ◌<◌, true, false, List, ◌∷◌, Bor, Option, Some, None, Result, Ok, Err, IfOk, ap, inl, inr, length, drop, get_or, refl, subst, sym}
use Rattle.std.proofs.lemmas.List.{drop_more}
use Rattle.std.specs.Option.{option_copied, option_map}
use Rattle.c25_asm.specs.Seen.{Seen, seen_of}
use Rattle.c25_asm.specs.Traces.{IsRefused}
use Rattle.c25_asm.specs.Trails.{IsTrail, IsWhole}
use Rattle.c25_asm.specs.declared.seen_line.SeenLine.{SeenLine}
use Rattle.c25_asm.specs.declared.tracing.Refused.{Refused}
use Rattle.c25_earlier.specs.Copying.{Copies}
use Rattle.c25_earlier.specs.Defined.{IsDefinedFirst, IsEarlier, names_seen}
use Rattle.c25_earlier.specs.FirstLines.{GetsValue, HasNoValue}
use Rattle.c25_earlier.specs.declared.copying.NoLine.{NoLine}
use Rattle.c25_macro.specs.Expander.{shown}
use Rattle.c25_macro.specs.Tracers.{fault_in}
use Rattle.c25_macro.specs.declared.answer.ExpLine.{ExpLine}
use Rattle.c25_meaning_assembly.specs.Sections.{is_predefined}
use Rattle.c25_meaning_common.specs.declared.failure.Failure.{Failure}
use Rattle.c25_meaning_common.specs.declared.no_memory.NoMemory.{NoMemory}
use Rattle.c25_meaning_common.specs.declared.placed.FileLine.{FileLine}
use Rattle.c25_meaning_expansion.specs.ExpansionAnswers.{ExpandedLine}
use Rattle.c25_meaning_expansion.specs.ExpansionRuns.{start_of}
use Rattle.c25_meaning_expansion.specs.Files.{Files}
use Rattle.c25_meaning_language.specs.ExpansionFault.{ExpansionFault, Missing}
use Rattle.c25_statements.specs.View.{texts_of}

-- ---- names

module _ (files : Files) (source : List ℕ) (names : List (Bor (List ℕ))) (i : ℕ) (d : Bor (List ℕ)) (within : i < length names) where
  onto : (line : Option ExpandedLine) → IsDefinedFirst files source ((get_or names i d).now ∷ texts_of (drop (i + 1) names)) line
      → IsDefinedFirst files source (texts_of (drop i names)) line
  onto line h = subst (λ (l : List (Bor (List ℕ))). IsDefinedFirst files source (texts_of l) line) (sym (drop_more names i d within)) h

  pub predefined_here : is_predefined (get_or names i d).now ≡ true → IsDefinedFirst files source (texts_of (drop i names)) None
  predefined_here h = onto None (inl (h, refl))

  pub defined_here : (line : ExpandedLine) → GetsValue files source (get_or names i d).now line → IsDefinedFirst files source (texts_of (drop i names)) (Some line)
  defined_here line h = onto (Some line) (inr (inl (line, h, refl)))

  pub not_here : (line : Option ExpandedLine) → is_predefined (get_or names i d).now ≡ false → HasNoValue files source (get_or names i d).now
      → IsDefinedFirst files source (texts_of (drop (i + 1) names)) line → IsDefinedFirst files source (texts_of (drop i names)) line
  not_here line new none rest = onto line (inr (inr (new, none, rest)))

-- ---- sources

module _ (files : Files) (sources : List (Bor (List ℕ))) (i : ℕ) (d : Bor (List ℕ)) (within : i < length sources) where
  onto_source : (line : Option ExpandedLine) → IsEarlier files ((get_or sources i d).now ∷ texts_of (drop (i + 1) sources)) line
      → IsEarlier files (texts_of (drop i sources)) line
  onto_source line h = subst (λ (l : List (Bor (List ℕ))). IsEarlier files (texts_of l) line) (sym (drop_more sources i d within)) h

  pub absent_here : start_of files (get_or sources i d).now ≡ None → IsEarlier files (texts_of (drop i sources)) None
  absent_here h = onto_source None (inr (inl (h, refl)))

  pub behind : (line : Option ExpandedLine) → IsWhole files (get_or sources i d).now → IsEarlier files (texts_of (drop (i + 1) sources)) line
      → IsEarlier files (texts_of (drop i sources)) line
  behind line whole h = onto_source line (inl (whole, h))

  refused_by : (r : Refused) (line : Option ExpandedLine) → IsRefused files (get_or sources i d).now r
      → IsDefinedFirst files (get_or sources i d).now (names_seen (option_map seen_of r.seen)) line → IsEarlier files (texts_of (drop i sources)) line
  refused_by r line h first = onto_source line (inr (inr (record {
    fault = fault_in r.fault;
    trail = r.trail.items;
    seen = option_map seen_of r.seen;
    refused = h;
    first = first;
  })))

  pub refused_here : (r : Refused) (seen : Option Seen) (result : Result (Option ExpLine) NoMemory) → IsRefused files (get_or sources i d).now r
      → seen ≡ option_map seen_of r.seen
      → IfOk result (λ line. IsDefinedFirst files (get_or sources i d).now (names_seen seen) (option_map shown line))
      → ((line : Option ExpandedLine) → IsEarlier files (texts_of (drop i sources)) line → IsEarlier files (texts_of sources) line)
      → IfOk result (λ line. IsEarlier files (texts_of sources) (option_map shown line))
  refused_here r seen (Ok line) h same first onwards =
      onwards (option_map shown line) (refused_by r (option_map shown line) h
      (subst (λ (s : Option Seen). IsDefinedFirst files (get_or sources i d).now (names_seen s) (option_map shown line)) same first))
  refused_here r seen (Err e) h same first onwards = tt

-- ---- sources that copy a file

module _ (files : Files) (sources : List (Bor (List ℕ))) (i : ℕ) (d : Bor (List ℕ)) (name : List ℕ) (within : i < length sources) where
  onto_copy : (file : List ℕ) (line : ℕ) → Copies files ((get_or sources i d).now ∷ texts_of (drop (i + 1) sources)) name file line
      → Copies files (texts_of (drop i sources)) name file line
  onto_copy file line h = subst (λ (l : List (Bor (List ℕ))). Copies files (texts_of l) name file line) (sym (drop_more sources i d within)) h

  pub no_copy_here : (file : List ℕ) (line : ℕ) → IsWhole files (get_or sources i d).now → Copies files (texts_of (drop (i + 1) sources)) name file line
      → Copies files (texts_of (drop i sources)) name file line
  no_copy_here file line whole h = onto_copy file line (inr (whole, h))

  pub copy_here : (r : Refused) (result : Result (FileLine (Bor (List ℕ))) (Failure NoLine)) → IsRefused files (get_or sources i d).now r
      → IfOk result (λ place. fault_in r.fault ≡ Missing place.file.now place.line name)
      → ((file : List ℕ) (line : ℕ) → Copies files (texts_of (drop i sources)) name file line → Copies files (texts_of sources) name file line)
      → IfOk result (λ place. Copies files (texts_of sources) name place.file.now place.line)
  copy_here r (Ok place) h same onwards =
      onwards place.file.now place.line (onto_copy place.file.now place.line (inl (
        r.trail.items,
        option_map seen_of r.seen,
        subst (λ (f : ExpansionFault). IsTrail files (get_or sources i d).now f r.trail.items (option_map seen_of r.seen)) same h,
      )))
  copy_here r (Err e) h same onwards = tt

-- the line that is refused, as it is lent
pub lent : (o : Option (Bor SeenLine)) (s : Option SeenLine) → option_copied o ≡ s → option_map (λ (b : Bor SeenLine). seen_of b.now) o ≡ option_map seen_of s
lent None s h = ap (option_map seen_of) h
lent (Some b) s h = ap (option_map seen_of) h
