use Rattle.std.proofs.Common.{◌∙◌, map}
use Rattle.c25_expr.specs.Pieces.{pieces_of}
use Rattle.c25_expr.specs.View.{tree_of}
use Rattle.c25_meaning_language.specs.Tree.{mark_of}
use Rattle.c25_named_values.proofs.Agreed.{tree_read, value_told}
use Rattle.c25_named_values.proofs.value.value_of_tokens.Goals as goal

pub returns-in-Ok : goal.returns-in-Ok
returns-in-Ok g c =
    let pieces = pieces_of c.args.tokens.now in
    let tree = tree_of c.in_ok-expr.expr in
    value_told (g.N.Names.address_of c.args.names.now) c.args.here pieces tree c.in_ok-symbols.symbols c.value_under.result c.in_ok-expr.ensures
    ((c.trees_are_read.ensures.read (map mark_of pieces) tree).1 (tree_read pieces tree c.in_ok-expr.ensures)).0 c.in_ok-symbols.ensures c.value_under.ensures
    ∙ c.in-Ok.is

pub returns : goal.returns
returns g c =
    let pieces = pieces_of c.args.tokens.now in
    let tree = tree_of c.in_ok-expr.expr in
    value_told (g.N.Names.address_of c.args.names.now) c.args.here pieces tree c.in_ok-symbols.symbols c.value_under.result c.in_ok-expr.ensures
    ((c.trees_are_read.ensures.read (map mark_of pieces) tree).1 (tree_read pieces tree c.in_ok-expr.ensures)).0 c.in_ok-symbols.ensures c.value_under.ensures
    ∙ c.in-Err.is
