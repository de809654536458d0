use Rattle.c25_guide.proofs.StatusWords.{st0_is, st1_is, loaded_st0_is, loaded_st1_is}
use Rattle.c25_guide.proofs.laws.status_words_are_printed.Goals as goal

pub returns : goal.returns
returns c = record { st0 = st0_is; st1 = st1_is; load_st0 = loaded_st0_is; load_st1 = loaded_st1_is }
