use Rattle.c25_answer_laws.proofs.ImageSources.{Laws, loads_alike, word_is}
use Rattle.c25_answer_laws.proofs.image_words.sources_of_images_have_their_words.Goals as goal

laws : (c : goal.After-layouts_have_their_words) → Laws
laws c = record { words = c.layouts_have_their_words.ensures.words; store = c.layouts_have_their_words.ensures.store }

pub returns-clause-words : goal.returns-clause-words
returns-clause-words c = word_is (laws c)

pub returns-clause-alike : goal.returns-clause-alike
returns-clause-alike c = loads_alike (laws c)
