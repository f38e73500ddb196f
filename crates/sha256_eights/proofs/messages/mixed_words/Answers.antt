use Rattle.sha256_eights.proofs.Lanewise.{each_lane}
use Rattle.sha256_eights.proofs.messages.mixed_words.Goals as goal

pub returns : goal.returns
returns c = each_lane _ c.mixed_word.ensures c.mixed_word-2.ensures c.mixed_word-3.ensures c.mixed_word-4.ensures
    c.mixed_word-5.ensures c.mixed_word-6.ensures c.mixed_word-7.ensures c.mixed_word-8.ensures
