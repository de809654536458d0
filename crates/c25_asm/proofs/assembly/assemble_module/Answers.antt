use Rattle.std.proofs.lemmas.Result.{err_from_is_err_and}
use Rattle.c25_asm.specs.View.{assembled_of}
use Rattle.c25_asm.proofs.Made.{module_alone, no_module}
use Rattle.c25_asm.proofs.assembly.assemble_module.Goals as goal

pub returns : goal.returns
returns c =
    let h = c.in_ok-listing.ensures in
    module_alone c.args.files.now c.args.name.now h.0 (assembled_of c.in_ok-listing.listing) h.1 h.2

pub returns-in_err-listing : goal.returns-in_err-listing
returns-in_err-listing c =
    let e = err_from_is_err_and c.from_residual.result c.from_residual.ensures.1 in
    rw (e.1, e.2) (no_module c.args.files.now c.args.name.now c.in_err-listing.field-0.0 c.in_err-listing.ensures)
