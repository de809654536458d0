-- Commands answered one by one: what the answers of those that are left finish.
use Rattle.std.proofs.Common.{◌≡◌, ℕ, suc, ◌+◌, ◌<◌, List, [], ◌∷◌, ◌++◌, length, drop, get_or, refl, sym, ap, ◌∙◌, subst, append_assoc, arith}
use Rattle.std.proofs.lemmas.List.{append-nil}
use Rattle.std.proofs.Math.Seq.{drop-cons}
use Rattle.c25_meaning_debugger.specs.Debugger.{Answers, AnswersAll, Point}
use Rattle.c25_meaning_linking.specs.Linking.{ImageData}
use Rattle.c25_meaning_processor.specs.WordStep.{WordStep}
use Rattle.c25_meaning_processor.specs.Signals.{signals_of}
use Rattle.c25_meaning_processor.specs.declared.schedule.ScheduleEntry.{ScheduleEntry}
use Rattle.c25_meaning_processor.specs.declared.script.Cmd.{Cmd}

-- a text, once the answers of the commands that are left from a point on are appended, is the answers of all
-- from the first point on
abbrev pub Finishes : List ScheduleEntry → ImageData → List Cmd → Point → List Cmd → Point → List ℕ → Type 0
Finishes entries image commands p left at text =
    (rest : List ℕ) (q : Point) → AnswersAll WordStep (signals_of entries) image left at rest q → AnswersAll WordStep (signals_of entries) image commands p (text ++ rest) q

-- that, where a session over this image under these entries is at this point
pub record SoFar (given : List ScheduleEntry) (was : ImageData) (commands : List Cmd) (p : Point) (left : List Cmd) (entries : List ScheduleEntry) (now : ImageData) (at : Point) (text : List ℕ) : Type 0 where
  pub schedule : entries ≡ given
  pub image : now ≡ was
  pub finishes : Finishes given was commands p left at text

-- the text is the answers of all
abbrev pub AreAnswered : List ScheduleEntry → ImageData → List Cmd → Point → List ℕ → Type 0
AreAnswered entries image commands p text = (q : Point) × AnswersAll WordStep (signals_of entries) image commands p text q

module _ (given : List ScheduleEntry) (was : ImageData) (commands : List Cmd) (p : Point) where
  from_command : (c : Cmd) (more : List Cmd) (at m : Point) (text first next : List ℕ) → Answers WordStep (signals_of given) was c at first m → next ≡ text ++ first
      → Finishes given was commands p (c ∷ more) at text → Finishes given was commands p more m next
  from_command c more at m text first next answered is h = λ rest q all.
      subst (λ (t : List ℕ). AnswersAll WordStep (signals_of given) was commands p t q) (sym (ap (λ (t : List ℕ). t ++ rest) is ∙ append_assoc text first rest))
      (h (first ++ rest) q (first, rest, m, answered, all, refl))

  split_at : (i : ℕ) (d : Cmd) (at : Point) (text : List ℕ) → i < length commands → Finishes given was commands p (drop i commands) at text
      → Finishes given was commands p (get_or commands i d ∷ drop (i + 1) commands) at text
  split_at i d at text lt h =
      let k : suc i ≡ i + 1 = omega arith in
      subst (λ (cs : List Cmd). Finishes given was commands p cs at text) (drop-cons commands i d lt ∙ ap (λ (j : ℕ). get_or commands i d ∷ drop j commands) k) h

  -- one more
  pub one_answered : (i : ℕ) (d : Cmd) (entries after : List ScheduleEntry) (now then : ImageData) (at m : Point) (text first next : List ℕ) → i < length commands
      → Answers WordStep (signals_of entries) now (get_or commands i d) at first m → after ≡ entries → then ≡ now → next ≡ text ++ first
      → SoFar given was commands p (drop i commands) entries now at text → SoFar given was commands p (drop (i + 1) commands) after then m next
  one_answered i d entries after now then at m text first next lt answered same stays is h = record {
    schedule = same ∙ h.schedule;
    image = stays ∙ h.image;
    finishes =
        let told = subst (λ (es : List ScheduleEntry). Answers WordStep (signals_of es) now (get_or commands i d) at first m) h.schedule answered in
        from_command (get_or commands i d) (drop (i + 1) commands) at m text first next
        (subst (λ (x : ImageData). Answers WordStep (signals_of given) x (get_or commands i d) at first m) h.image told) is
        (split_at i d at text lt h.finishes);
  }

  -- after the last command
  pub all_answered : (left : List Cmd) (entries : List ScheduleEntry) (now : ImageData) (at : Point) (text : List ℕ) → left ≡ []
      → SoFar given was commands p left entries now at text → AreAnswered given was commands p text
  all_answered left entries now at text none h =
      let nothing : AnswersAll WordStep (signals_of given) was left at [] at = subst (λ (cs : List Cmd). AnswersAll WordStep (signals_of given) was cs at [] at) (sym none) (refl, refl) in
      (at, subst (λ (t : List ℕ). AnswersAll WordStep (signals_of given) was commands p t at) (append-nil text) (h.finishes [] at nothing))
