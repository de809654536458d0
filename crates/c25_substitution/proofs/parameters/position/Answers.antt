use Rattle.std.proofs.Common.{◌≡◌, suc, ◌+◌, take, ap, ◌∙◌, sym, arith, String}
use Rattle.std.specs.declared.alloc.Global.{Global}
use Rattle.std.specs.String.{string_bytes}
use Rattle.std.specs.Map.{lookup}
use Rattle.std.specs.Str.{bytes_eq}
use Rattle.c25_substitution.specs.Pairs.{pairs}
use Rattle.c25_substitution.proofs.Pairs.{none_more}
use Rattle.c25_substitution.proofs.parameters.position.Goals as goal

pub loop-i-preserved : goal.loop-i-preserved
loop-i-preserved c =
    let place : c.loop-i.i + 1 ≡ suc c.loop-i.i = omega arith in
    ap (λ n. lookup (bytes_eq c.args.name.now) (pairs (take n c.args.entries.now))) place
    ∙ none_more c.args.name.now c.args.entries.now c.loop-i.i c.index-entries-i.result c.loop-i-test.true c.loop-i.invariant
    (ap (λ (e : String Global × String Global). bytes_eq c.args.name.now (string_bytes e.0)) (sym c.index-entries-i.is) ∙ ap (bytes_eq c.args.name.now) (sym c.as_str.ensures.value) ∙ sym c.if-eq.ensures)
