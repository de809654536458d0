use Rattle.std.proofs.Common.{◌≡◌, ◌^◌, not, ltb, length, true, ap, arith}
use Rattle.std.specs.Str.{is_utf8}
use Rattle.std.proofs.lemmas.Bool.{lt-ltb}
use Rattle.std.proofs.lemmas.Str.{is_utf8-from_IsUtf8}
use Rattle.c25_module.proofs.fits.file_fits.Goals as goal

pub returns-then-name : goal.returns-then-name
returns-then-name c =
    let text : is_utf8 c.args.name.now ≡ true = is_utf8-from_IsUtf8 c.args.name.now c.utf8.name in
    let short : ltb (length c.args.name.now) (2 ^ 32) ≡ true = lt-ltb _ _ (omega (arith, c.if-name.true)) in
    rw (text, short) (ap not c.has_file.ensures)
