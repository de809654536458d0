use Rattle.std.proofs.Common.{◌≡◌, ◌+◌, List, ◌∷◌, Result, Ok, drop, map, ap, sym, ◌∙◌, string_bytes}
use Rattle.std.specs.Prelude.{String}
use Rattle.std.specs.declared.alloc.Global.{Global}
use Rattle.std.proofs.lemmas.List.{drop_all, drop_more}
use Rattle.c25_meaning_common.specs.Results.{◌>>=◌, fold_ok}
use Rattle.c25_chain.specs.Modules.{with_source}
use Rattle.c25_chain.specs.View.{modules_view}
use Rattle.c25_chain.proofs.modules.assemble_all.Goals as goal

-- a step of a fold that goes on
goes_on : {A B E : Type 0} (step : A → B → Result A E) (a next : A) (b : B) (bs : List B) → step a b ≡ Ok next → fold_ok step a (b ∷ bs) ≡ fold_ok step next bs
goes_on {A} {B} {E} step a next b bs e = ap (λ (r : Result A E). r >>= λ n. fold_ok step n bs) e

pub loop-source-preserved : goal.loop-source-preserved
loop-source-preserved c =
    let sources = c.args.sources.now in
    let i = c.loop-source.source-index in
    let step = with_source c.args.files.now in
    let so_far = modules_view c.loop-source.all in
    let item = c.source-item.result in
    let rest : drop i sources ≡ item ∷ drop (i + 1) sources =
    drop_more sources i item c.loop-source-test.true ∙ ap (λ (source : String Global). source ∷ drop (i + 1) sources) (sym c.source-item.is) in
    let one = ap (step so_far) (sym c.as_str.ensures.value) ∙ c.in_ok-add_source.ensures in
    sym (goes_on step so_far (modules_view c.add_source.new.all) (string_bytes item) (map string_bytes (drop (i + 1) sources)) one)
    ∙ ap (λ (names : List (String Global)). fold_ok step so_far (map string_bytes names)) (sym rest) ∙ c.loop-source.invariant

pub returns : goal.returns
returns c =
    let step = with_source c.args.files.now in
    let so_far = modules_view c.loop-source.all in
    sym c.loop-source.invariant
    ∙ ap (λ (names : List (String Global)). fold_ok step so_far (map string_bytes names)) (drop_all c.loop-source.source-index c.args.sources.now c.loop-source-test.false)
