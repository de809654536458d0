use Rattle.std.proofs.Common.{sym, ◌∙◌, string_bytes, ◌++◌}
use Rattle.std.specs.Map.Iter.{deref_pair}
use Rattle.std.proofs.lemmas.Map.Iter.{rest_more, rest_all}
use Rattle.c25_hex.specs.HexText.{text_of, lines_on, stretches_on}
use Rattle.c25_hex.specs.View.{stretch_of}
use Rattle.c25_hex.proofs.WriterSteps.{goes_further, begins_line, last_line}
use Rattle.c25_hex.proofs.writer.Writer.put_words.Goals as goal

pub loop-address-preserved-then-goes_on : goal.loop-address-preserved-then-goes_on
loop-address-preserved-then-goes_on c =
    let took = rest_more deref_pair c.loop-address.address-iterator c.next.new.self c.next.result (c.in-Some.address, c.in-Some.word) c.in-Some.is c.next.ensures.steps in
    goes_further (string_bytes c.loop-address.self.text) (string_bytes c.args.self.now.text ++ text_of (lines_on c.args.self.now.has_base (stretches_on (stretch_of c.args.first) c.args.rest)))
    c.loop-address.self.has_base (stretch_of c.loop-address.stretch) (c.in-Some.address.now, c.in-Some.word.now) c.next.new.self c.loop-address.address-iterator c.push.new.self.items
    took (sym c.goes_on.ensures ∙ c.if-goes_on.true) c.push.ensures.items c.loop-address.invariant

pub loop-address-preserved : goal.loop-address-preserved
loop-address-preserved c =
    let took = rest_more deref_pair c.loop-address.address-iterator c.next.new.self c.next.result (c.in-Some.address, c.in-Some.word) c.in-Some.is c.next.ensures.steps in
    begins_line (string_bytes c.loop-address.self.text) (string_bytes c.put_stretch.new.self.text)
    (string_bytes c.args.self.now.text ++ text_of (lines_on c.args.self.now.has_base (stretches_on (stretch_of c.args.first) c.args.rest)))
    c.loop-address.self.has_base c.put_stretch.new.self.has_base (stretch_of c.loop-address.stretch) (stretch_of c.alone-stretch.result)
    (c.in-Some.address.now, c.in-Some.word.now) c.next.new.self c.loop-address.address-iterator
    took (sym c.goes_on.ensures ∙ c.if-goes_on.false) c.alone-stretch.ensures c.in_ok-put_stretch.ensures.text c.in_ok-put_stretch.ensures.base c.loop-address.invariant

pub returns : goal.returns
returns c =
    let none = rest_all deref_pair c.loop-address.address-iterator c.next.new.self c.next.result c.in-None.is c.next.ensures.steps in
    last_line (string_bytes c.loop-address.self.text) (string_bytes c.put_stretch-2.new.self.text)
    (string_bytes c.args.self.now.text ++ text_of (lines_on c.args.self.now.has_base (stretches_on (stretch_of c.args.first) c.args.rest)))
    c.loop-address.self.has_base c.put_stretch-2.new.self.has_base (stretch_of c.loop-address.stretch) c.loop-address.address-iterator
    none c.in_ok-put_stretch-2.ensures.text c.in_ok-put_stretch-2.ensures.base c.loop-address.invariant
