-- Samples that are read have one of the sixteen ports.
use Rattle.std.proofs.Common.{◌≡◌, ℕ, ◌<◌, ◌≤◌, ◌&&◌, arith, Bool, true, false, List, [], ◌∷◌, ◌++◌, Option, Some, None, Ok, refl, sym, ap, nat_le, option_map, option_and_then, if◌then◌else◌}
use Rattle.std.specs.Str.Lines.{lines}
use Rattle.std.proofs.lemmas.Bool.{and_parts, leb-true}
use Rattle.c25_meaning_processor.specs.declared.sample.Sample.{Sample}
use Rattle.c25_meaning_common.specs.Digits.{are_digits, value_in, decimal_of, hexadecimal_of}
use Rattle.c25_meaning_processor.specs.Samples.{sample_of, samples_of}
use Rattle.c25_meaning_common.proofs.ItemsHold.{items_hold}
use Rattle.c25_board.specs.SamplesLeft.{HavePorts}

more_ports : (before : List Sample) (a : Sample) → HavePorts before → a.port < 16 → HavePorts (before ++ a ∷ [])
more_ports [] a h l = (l, tt)
more_ports (s ∷ before) a h l = (h.0, more_ports before a h.1 l)

chosen : (b : Bool) (most v n : ℕ) → (b ≡ true → v ≤ most) → (if b then Some v else None) ≡ Some n → n ≤ most
chosen true most v n small h = let e : v ≡ n = cc in let l = small refl in omega (arith, e, l)
chosen false most v n small h = absurd (cc)

up_to : (most : ℕ) (word : List ℕ) (n : ℕ) → decimal_of most word ≡ Some n → n ≤ most
unfolding decimal_of
up_to most word n h =
    chosen (are_digits 10 word && nat_le (value_in 10 word) most) most (value_in 10 word) n
    (λ e. leb-true (value_in 10 word) most (and_parts (are_digits 10 word) (nat_le (value_in 10 word) most) e).1) h

made : (word : Option ℕ) (p : ℕ) (a : Sample) → option_map (λ w. record { port = p; word = w }) word ≡ Some a → a.port ≡ p
made None p a h = absurd (cc)
made (Some w) p a h = let s : Sample = record { port = p; word = w } in let e : s ≡ a = cc in sym (ap (λ (x : Sample). x.port) e)

port_of : (port word : Option ℕ) (a : Sample) → ((p : ℕ) → port ≡ Some p → p ≤ 15) → option_and_then (λ p. option_map (λ w. record { port = p; word = w }) word) port ≡ Some a → a.port < 16
port_of None word a small h = absurd (cc)
port_of (Some p) word a small h = let e = made word p a h in let l = small p refl in omega (arith, e, l)

one_port : (before : List Sample) (words : List (List ℕ)) (a : Sample) → HavePorts before → sample_of before words ≡ Some a → HavePorts (before ++ a ∷ [])
one_port before [] a holds h = absurd (cc)
one_port before (port ∷ []) a holds h = absurd (cc)
one_port before (port ∷ word ∷ []) a holds h =
    more_ports before a holds (port_of (decimal_of 15 port) (hexadecimal_of 4 word) a (λ p e. up_to 15 port p e) h)
one_port before (port ∷ word ∷ more ∷ rest) a holds h = absurd (cc)

pub have_ports : (text : List ℕ) (samples : List Sample) → samples_of text ≡ Ok samples → HavePorts samples
have_ports text samples h = items_hold HavePorts sample_of one_port [] samples 1 (lines text) tt h
