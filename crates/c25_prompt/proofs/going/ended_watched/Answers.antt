use Rattle.std.proofs.Common.{◌≡◌, ◌∙◌, ℕ, Option, slice_index, sym, ap, rules}
use Rattle.c25_board.specs.Board.{state}
use Rattle.c25_prompt.specs.Seen.{ended_changed}
use Rattle.c25_prompt.specs.declared.ended.Ended.TheVariants as ended
use Rattle.c25_prompt.specs.declared.watched.Watched.{Watched}
use Rattle.c25_prompt.proofs.Went.{ended_by}
use Rattle.c25_prompt.proofs.going.ended_watched.Goals as goal

pub returns-in-None : goal.returns-in-None
returns-in-None c =
    let words = (state c.args.board.now).world.words in
    ap (λ (o : Option Watched). ended_changed words o c.args.ended) (sym c.in-None.is)
    ∙ ended_by words _ c.args.watched.now c.args.ended c.first_changed.result c.data-memory.ensures.words c.first_changed.ensures

pub returns-in-Some : goal.returns-in-Some
returns-in-Some c =
    let words = (state c.args.board.now).world.words in
    let w = c.in-Some.field-0 in
    let at : c.from.result ≡ w.address = search rules in
    ap (λ (x : ℕ). ended.Changed w.address w.old x) (ap (λ (i : ℕ). slice_index c.data-memory.result.now i) at ∙ ap (λ (g : ℕ → ℕ). g w.address) c.data-memory.ensures.words)
    ∙ ap (λ (o : Option Watched). ended_changed words o c.args.ended) (sym c.in-Some.is)
    ∙ ended_by words _ c.args.watched.now c.args.ended c.first_changed.result c.data-memory.ensures.words c.first_changed.ensures
