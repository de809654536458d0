-- Where the instruction at PC stands, by the place of the instruction that runs there in block B0.
use Rattle.std.proofs.Common.{◌≡◌, Option, subst}
use Rattle.c25_meaning_debugger.specs.Texts.{SourceLine}
use Rattle.c25_meaning_image.specs.declared.mark.RunMark.{RunMark}
use Rattle.c25_meaning_linking.specs.Linking.{ImageData}
use Rattle.c25_meaning_processor.specs.State.{State}
use Rattle.c25_prompt.specs.Source.{IsPlaceBy}

-- the line of PC where the place of an instruction was looked for
pub place_by : (image : ImageData) (s : State) (found there : Option RunMark) (place : SourceLine) → there ≡ found → IsPlaceBy image s there place → IsPlaceBy image s found place
place_by image s found there place is shown = subst (λ (f : Option RunMark). IsPlaceBy image s f place) is shown
