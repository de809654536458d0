-- Lines of warnings, reported.
use Rattle.std.proofs.Common.{◌≡◌, ◌∙◌, ◌+◌, ◌==◌, ℕ, false, List, [], ◌∷◌, arith, drop, inl, inr, length, sym, ap, subst, take, true≢false}
use Rattle.std.specs.List.{position_or_len}
use Rattle.std.proofs.lemmas.List.{drop_all, take_all}
use Rattle.c25_report.specs.declared.ending.Ending.{Ending}
use Rattle.c25_tasks.specs.Checking.{IsReportBefore, IsReportWith, ReportsLines, first_line, other_lines}

-- a text that is not empty is reported by its first line and the others
pub lines_reported : (text first others : List ℕ) (e : Ending) (note : List ℕ) → (length text == 0) ≡ false → first ≡ first_line text → others ≡ other_lines text → IsReportWith first others e note → ReportsLines text e note
lines_reported [] first others e note some at behind told = absurd (true≢false some)
lines_reported (b ∷ text) first others e note some at behind told =
    subst (λ (f : List ℕ). IsReportWith f (other_lines (b ∷ text)) e note) at (subst (λ (o : List ℕ). IsReportWith first o e note) behind told)

-- a text without a line feed is its first line, and there are no others
pub whole_line : (text : List ℕ) → position_or_len (λ b. b == 10) text ≡ length text → text ≡ first_line text
whole_line text none = sym (ap (λ (n : ℕ). take n text) none ∙ take_all (length text) text (omega arith))

pub no_others : (text : List ℕ) → position_or_len (λ b. b == 10) text ≡ length text → [] ≡ other_lines text
no_others text none = sym (ap (λ (n : ℕ). drop (n + 1) text) none ∙ drop_all (length text + 1) text (omega arith))

-- a report with facts after its note is what it was without them, with the facts
pub reported_before : (facts : List ℕ) (reports : Ending → List ℕ → Type 0) (before after : Ending) (first note : List ℕ) → reports before first → IsReportBefore facts (λ e n. (e ≡ before) × (n ≡ first)) after note → IsReportBefore facts reports after note
reported_before facts reports before after first note told (inl h) =
    let of_note : reports before h.0 = subst (λ (n : List ℕ). reports before n) (sym h.1.1) told in
    inl (h.0, subst (λ (e : Ending). reports e h.0) (sym h.1.0) of_note, h.2)
reported_before facts reports before after first note told (inr short) = inr short
