use Rattle.std.proofs.Common.{◌≡◌, ◌∷◌, ◌-◌, Ok, drop, if◌then◌else◌, length, nat_lt, refl, reverse, rules, ◌∙◌}
use Rattle.c25_meaning_expansion.specs.ExpansionRuns.{rewrite}
use Rattle.c25_meaning_expansion.specs.Trail.{line_of}
use Rattle.c25_macro.specs.Config.{Follows, config}
use Rattle.c25_macro.specs.SourceFrames.{frames}
use Rattle.c25_macro.specs.Tracers.{Trace, trace_of}
use Rattle.c25_macro.proofs.Stepping.{steps}
use Rattle.c25_macro.proofs.tracer.Tracer.step.Goals as goal

pub returns-in_ok-follow-in-Ok : goal.returns-in_ok-follow-in-Ok
returns-in_ok-follow-in-Ok c =
    let old = trace_of c.args.self.now in
    let new : Trace = record { files = c.args.self.now.files.now; at = config c.step.new.self; trail = reverse c.follow.new.trail.items } in
    let line : c.line-line.result ≡ line_of old.at = search rules in
    let before : c.len-before.result ≡ length old.at.outer = search rules in
    let after : c.len-after.result ≡ length new.at.outer = search rules in
    let follows : Follows (rewrite old.files c.args.symbols.now old.at) (Ok c.in-Ok.progress) new.at = search rules in
    let trail = c.in_ok-follow-in-Ok.ensures.followed ∙ (λ i. if nat_lt (before i) (after i) then line i ∷ old.trail else drop (before i - after i) old.trail) in
    steps c.args.symbols.now old new refl c.in-Ok.progress c.shown.result c.requires trail follows c.shown.ensures
