-- What holds of the lines and the map of each linked program.
use Rattle.std.specs.Prelude.{◌≡◌, List, map, true}
use Rattle.c25_meaning_image.specs.Marks.{fit_from}
use Rattle.c25_meaning_linking.specs.Words.{LineData}
use Rattle.c25_meaning_linking.specs.MapText.{MapData, IsPrinted}

-- the instructions with lines ascend and are apart, and the map has the form of one that is printed
pub record IsSound (lines : List LineData) (described : MapData) : Type 0 where
  pub ascend : fit_from 0 (map (λ l. l.mark) lines) ≡ true
  pub printed : IsPrinted described
