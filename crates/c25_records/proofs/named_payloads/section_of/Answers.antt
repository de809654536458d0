-- A section is read where its body is, and refused as that is.
use Rattle.std.proofs.Common.{◌≡◌, ℕ, ◌-◌, ◌≤◌, Bool, false, cond, ltb, List, length, slice_index, take, drop, Option, Some, None, Result, Ok, Err, sym, ap, subst, ◌∙◌, arith, length-drop}
use Rattle.std.specs.Prelude.{IsErrAnd}
use Rattle.std.specs.Option.{ok_or, option_map}
use Rattle.std.proofs.Math.Seq.{take-length}
use Rattle.std.proofs.lemmas.Bool.{le-ltb}
use Rattle.c25_meaning_common.specs.Results.{FailsBy, Meets}
use Rattle.c25_meaning_common.specs.declared.failure.Failure.{Failure}
use Rattle.c25_meaning_common.specs.declared.failure.Failure.TheVariants.{NoMemory, Fault}
use Rattle.c25_meaning_objects.specs.declared.object.ObjectFault.{ObjectFault}
use Rattle.c25_meaning_objects.specs.declared.object.ObjectFault.TheVariants.{BadField}
use Rattle.c25_meaning_objects.specs.Module.{SectionBody, SectionData}
use Rattle.c25_meaning_objects.specs.RecordReading.{body_of, section_of}
use Rattle.c25_module.specs.View.{body_data}
use Rattle.c25_records.proofs.named_payloads.section_of.Goals as goal

-- a section of this name
abbrev named : List ℕ → SectionBody → SectionData
named name body = record { name = name; body = body }

-- what stands after the first two bytes, cut out to the end, is all of it
behind_two : (bytes : List ℕ) → take (length bytes - 2) (drop 2 bytes) ≡ drop 2 bytes
behind_two bytes = let len : length (drop 2 bytes) ≡ length bytes - 2 = omega (arith, length-drop 2 bytes) in ap (λ (k : ℕ). take k (drop 2 bytes)) (sym len) ∙ take-length (drop 2 bytes)

-- with its name and its body cut out of that
section_cut : (bytes part name rest : List ℕ) → part ≡ drop 2 bytes → 2 ≤ length bytes → slice_index bytes 1 ≤ length part → name ≡ take (slice_index bytes 1) part → rest ≡ drop (slice_index bytes 1) part
    → section_of bytes ≡ option_map (named name) (body_of (slice_index bytes 0) rest)
unfolding section_of
section_cut bytes part name rest all long enough front back =
    let n : ℕ = slice_index bytes 1 in
    let found : List ℕ → List ℕ → Option SectionData = λ front back. option_map (named front) (body_of (slice_index bytes 0) back) in
    let sized : ltb (length bytes) 2 ≡ false = le-ltb _ _ long in
    let fits : ltb (length (drop 2 bytes)) n ≡ false = le-ltb _ _ (omega (arith, enough, ap length all)) in
    ap (λ (t : Bool). cond t None (cond (ltb (length (drop 2 bytes)) n) None (found (take n (drop 2 bytes)) (drop n (drop 2 bytes))))) sized
    ∙ ap (λ (t : Bool). cond t None (found (take n (drop 2 bytes)) (drop n (drop 2 bytes)))) fits
    ∙ ap (λ (l : List ℕ). found (take n l) (drop n l)) (sym all) ∙ ap (λ (l : List ℕ). found l (drop n part)) (sym front) ∙ ap (λ (l : List ℕ). found name l) (sym back)

made : (whole : Option SectionData) (name : List ℕ) (o : Option SectionBody) (b : SectionBody) → whole ≡ option_map (named name) o → ok_or o BadField ≡ Ok b → ok_or whole BadField ≡ Ok (named name b)
made whole name None b is ok = absurd cc
made whole name (Some x) b is ok = let same : x ≡ b = cc in ap (λ (w : Option SectionData). ok_or w BadField) is ∙ ap (λ (y : SectionBody). Ok (named name y)) same

still : (name : List ℕ) (o : Option SectionBody) (e : Failure ObjectFault) → FailsBy (λ f. f) (ok_or o BadField) e → FailsBy (λ f. f) (ok_or (option_map (named name) o) BadField) e
still name o (NoMemory n) fails = tt
still name None (Fault f) fails = let same : BadField ≡ f = cc in ap (λ (y : ObjectFault). Err y) same
still name (Some x) (Fault f) fails = absurd cc

refused : {T : Type 0} (view : T → SectionData) (whole : Option SectionData) (name : List ℕ) (o : Option SectionBody) (e : Failure ObjectFault) (r : Result T (Failure ObjectFault)) → whole ≡ option_map (named name) o
    → FailsBy (λ f. f) (ok_or o BadField) e → IsErrAnd r (λ x. x ≡ e) → Meets view (ok_or whole BadField) r
refused view whole name o e (Ok t) is fails same = absurd same
refused view whole name o e (Err x) is fails same =
    subst (λ (w : Option SectionData). FailsBy (λ f. f) (ok_or w BadField) x) (sym is) (subst (λ (y : Failure ObjectFault). FailsBy (λ f. f) (ok_or (option_map (named name) o) BadField) y) (sym same) (still name o e fails))

pub returns : goal.returns
returns c =
    let name = c.split_at.result.0.now in
    let rest = c.split_at.result.1.now in
    made (section_of c.args.bytes.now) name (body_of (slice_index c.args.bytes.now 0) rest) (body_data c.in_ok-body.body)
    (section_cut c.args.bytes.now _ name rest (behind_two c.args.bytes.now) c.if-bytes-lt2.false c.if-rest-len.false c.split_at.ensures.front c.split_at.ensures.back) c.in_ok-body.ensures

pub returns-in_err-body : goal.returns-in_err-body
returns-in_err-body c =
    let name = c.split_at.result.0.now in
    let rest = c.split_at.result.1.now in
    refused _ (section_of c.args.bytes.now) name (body_of (slice_index c.args.bytes.now 0) rest) c.in_err-body.field-0.0 c.from_residual.result
    (section_cut c.args.bytes.now _ name rest (behind_two c.args.bytes.now) c.if-bytes-lt2.false c.if-rest-len.false c.split_at.ensures.front c.split_at.ensures.back) c.in_err-body.ensures c.from_residual.ensures.1
