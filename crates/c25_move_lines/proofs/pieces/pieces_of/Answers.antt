use Rattle.std.specs.Str.{chars}
use Rattle.std.proofs.Common.{length, ◌≡◌, ◌++◌, ◌∙◌, ap, List, [], ℕ, encode_utf8_all, string_bytes, arith}
use Rattle.std.proofs.lemmas.Iterator.{YieldsList-from_chars}
use Rattle.std.proofs.lemmas.Iterator.Consumers.{YieldsList-turn, YieldsList-end}
use Rattle.std.proofs.lemmas.List.{length_push}
use Rattle.std.proofs.lemmas.Str.{encodes-chars}
use Rattle.c25_move_lines.specs.declared.pieces.Piece.{Piece}
use Rattle.c25_move_lines.specs.Pieces.{text_of}
use Rattle.c25_move_lines.proofs.Characters.{goes_on, text_ends}
use Rattle.c25_move_lines.proofs.pieces.pieces_of.Goals as goal

pub loop-c-init : goal.loop-c-init
loop-c-init c =
    let left = encode_utf8_all (chars c.args.text.now) in
    ap (λ (ps : List Piece). (text_of ps ++ string_bytes c.empty-last.result.text) ++ left) c.new-pieces.ensures.items
    ∙ ap (λ (bytes : List ℕ). bytes ++ left) c.empty-last.ensures
    ∙ encodes-chars c.args.text.now c.utf8.text

pub loop-c-preserved : goal.loop-c-preserved
loop-c-preserved c =
    let t = YieldsList-turn (YieldsList-from_chars c.args.text.now c.utf8.text cc) c.loop-c.yielded _ c.loop-c.yielded_by _ _ c.in-Some.c c.in-Some.is c.next.ensures.steps in
    goes_on _ _ _ _ _ _ _ t (length_push c.loop-c.yielded c.in-Some.c) c.in_ok-push_char.ensures c.loop-c.invariant

pub returns : goal.returns
returns c =
    let t = YieldsList-end (YieldsList-from_chars c.args.text.now c.utf8.text cc) c.loop-c.yielded _ c.loop-c.yielded_by _ _ c.in-None.is c.next.ensures.steps in
    c.in_ok-push_piece.ensures ∙ text_ends (chars c.args.text.now) (length c.loop-c.yielded) _ _ (omega (arith, t.1)) c.loop-c.invariant
