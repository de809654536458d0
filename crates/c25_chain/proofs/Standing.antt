-- Where a board stands, by the answers of a session over it.
use Rattle.std.proofs.Common.{◌≡◌, ◌++◌, ℕ, List, [], append-nil, refl, subst, sym}
use Rattle.c25_chain.specs.Inspection.{TellsBoth, TellsWhere}
use Rattle.c25_meaning_debugger.specs.Debugger.{Answers, Point}
use Rattle.c25_meaning_linking.specs.Linking.{ImageData}
use Rattle.c25_meaning_processor.specs.Run.{Signals}
use Rattle.c25_meaning_processor.specs.State.{State}
use Rattle.c25_meaning_processor.specs.WordStep.{WordStep}
use Rattle.c25_meaning_processor.specs.Signals.{signals_of}
use Rattle.c25_meaning_processor.specs.declared.schedule.ScheduleEntry.{ScheduleEntry}
use Rattle.c25_meaning_processor.specs.declared.script.Cmd.TheVariants as cmd

pub tells_both : (before after : Signals) (was now : ImageData) (begun p q : Point) (first place text : List ℕ) → now ≡ was
    → Answers WordStep before was cmd.Regs begun first p → Answers WordStep after now cmd.Where p place q → text ≡ first ++ place → TellsBoth before was begun text
tells_both before after was now begun p q first place text still regs where_is joined =
    let stands = subst (λ (i : ImageData). Answers WordStep before i cmd.Where p place q) still where_is in
    (q, (first, place, p, regs, (place, [], q, stands, (refl, refl), sym (append-nil place)), joined))

pub tells_where : (signals : Signals) (entries : List ScheduleEntry) (image was : ImageData) (begun : Point) (text : List ℕ) (steps : ℕ) (s : State)
    → begun ≡ record { steps = steps; state = s; breaks = [] } → was ≡ image → TellsBoth signals was begun text → TellsWhere image entries steps s text
tells_where signals entries image was begun text steps s begins same told =
    subst (λ (x : Point). TellsBoth (signals_of entries) image x text) begins (subst (λ (i : ImageData). TellsBoth (signals_of entries) i begun text) same told)
