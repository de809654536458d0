use Rattle.std.proofs.Common.{inl, inr, refl}
use Rattle.std.specs.Prelude.{Ok, Err}
use Rattle.c25_inputs.specs.Files.{ReadsAll, source_names}
use Rattle.c25_inputs.specs.Inputs.{AreInputs}
use Rattle.c25_inputs.proofs.Fails.{fails_with}
use Rattle.c25_inputs.proofs.Gathering.{beside_read, beside_refused, inputs_short}
use Rattle.c25_inputs.proofs.sources.inputs_of.Goals as goal

pub returns-in_err-texts : goal.returns-in_err-texts
returns-in_err-texts g c =
    inl (fails_with c.from_residual.result c.in_err-texts.field-0.0 (λ fault. ReadsAll (g.D.Disk.bytes_of c.args.disk.now) (source_names c.args.sources) (Err fault)) c.from_residual.ensures.1 c.in_err-texts.ensures)

pub returns-in_err-beside : goal.returns-in_err-beside
returns-in_err-beside g c =
    let sources = source_names c.args.sources in
    inr (
      _,
      c.in_ok-texts.ensures,
      beside_refused (g.D.Disk.bytes_of c.args.disk.now) c.args.files (AreInputs sources c.in_ok-texts.texts) c.from_residual-in_err-beside.result c.in_err-beside.field-0.0 c.in_err-beside.ensures c.from_residual-in_err-beside.ensures.1,
    )

pub returns-in_err-names : goal.returns-in_err-names
returns-in_err-names g c =
    let sources = source_names c.args.sources in
    inr (
      _,
      c.in_ok-texts.ensures,
      beside_read (g.D.Disk.bytes_of c.args.disk.now) c.args.files (AreInputs sources c.in_ok-texts.texts) c.in_ok-beside.beside c.from_residual-in_err-names.result c.in_ok-beside.ensures
          (inputs_short sources c.in_ok-texts.texts _ _ _ c.from_residual-in_err-names.result c.from_residual-in_err-names.ensures.1),
    )

pub returns-in_err-shown : goal.returns-in_err-shown
returns-in_err-shown g c =
    let sources = source_names c.args.sources in
    inr (
      _,
      c.in_ok-texts.ensures,
      beside_read (g.D.Disk.bytes_of c.args.disk.now) c.args.files (AreInputs sources c.in_ok-texts.texts) c.in_ok-beside.beside c.from_residual-in_err-shown.result c.in_ok-beside.ensures
          (inputs_short sources c.in_ok-texts.texts _ _ _ c.from_residual-in_err-shown.result c.from_residual-in_err-shown.ensures.1),
    )

pub returns : goal.returns
returns g c =
    let sources = source_names c.args.sources in
    inr (
      _,
      c.in_ok-texts.ensures,
      beside_read (g.D.Disk.bytes_of c.args.disk.now) c.args.files (AreInputs sources c.in_ok-texts.texts) c.in_ok-beside.beside
          (Ok (record { files = c.in_ok-texts.texts; names = c.in_ok-names.names; shown = c.in_ok-shown.shown; beside = c.in_ok-beside.beside })) c.in_ok-beside.ensures (refl, c.in_ok-names.ensures, refl, refl, refl, c.in_ok-shown.ensures),
    )
