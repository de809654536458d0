use Rattle.std.proofs.Common.{◌≡◌, ◌&&◌, true, length, nat_le, sym, ap}
use Rattle.std.specs.Str.{is_utf8}
use Rattle.std.proofs.lemmas.Str.{is_utf8-from_IsUtf8}
use Rattle.c25_source.proofs.source.is_file_name.Goals as goal

pub returns : goal.returns
returns c =
    let text : is_utf8 c.args.name.now ≡ true = is_utf8-from_IsUtf8 c.args.name.now c.utf8.name in
    ap (λ b. b && nat_le (length c.args.name.now) 65535) (sym text)
