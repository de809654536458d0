-- After an instruction that moves neither PC nor the stack, the registers are as they are known to be.
use Rattle.std.proofs.Common.{◌≡◌, ℕ, ◌+◌, ◌%◌, ◌^◌, Bool, true, false, not, ◌&&◌, if◌then◌else◌, Option, None, Some, Ok, Err, refl, sym, ap, ◌∙◌, subst, arith, ℤ}
use Rattle.std.specs.Prelude.{slice_get}
use Rattle.c25_meaning_instructions.specs.declared.insn.Addr.{Addr}
use Rattle.c25_meaning_instructions.specs.declared.insn.Addr.TheVariants.{Direct, Indirect}
use Rattle.c25_meaning_instructions.specs.declared.insn.Change.{Change}
use Rattle.c25_meaning_instructions.specs.declared.insn.PlainOperand.{PlainOperand}
use Rattle.c25_meaning_instructions.specs.declared.insn.Insn.{Insn}
use Rattle.c25_meaning_instructions.specs.declared.insn.Insn.TheVariants as insn
use Rattle.c25_meaning_instructions.specs.declared.mnemonic.ShiftedName.{ShiftedName}
use Rattle.c25_meaning_instructions.specs.declared.mnemonic.ShiftedName.TheVariants as shifted
use Rattle.c25_meaning_instructions.specs.declared.mnemonic.ArMemName.{ArMemName}
use Rattle.c25_meaning_instructions.specs.declared.mnemonic.ArMemName.TheVariants as ar_mem
use Rattle.c25_meaning_instructions.specs.declared.mnemonic.PortName.{PortName}
use Rattle.c25_meaning_instructions.specs.declared.mnemonic.PortName.TheVariants as port
use Rattle.c25_meaning_instructions.specs.declared.mnemonic.ShortName.{ShortName}
use Rattle.c25_meaning_instructions.specs.declared.mnemonic.ShortName.TheVariants as short
use Rattle.c25_meaning_instructions.specs.declared.mnemonic.LongName.{LongName}
use Rattle.c25_meaning_instructions.specs.declared.mnemonic.LongName.TheVariants as long
use Rattle.c25_meaning_instructions.specs.declared.mnemonic.MemName.{MemName}
use Rattle.c25_meaning_instructions.specs.declared.mnemonic.MemName.TheVariants as mem
use Rattle.c25_meaning_instructions.specs.declared.mnemonic.LongMemName.{LongMemName}
use Rattle.c25_meaning_instructions.specs.declared.mnemonic.LongMemName.TheVariants as long_mem
use Rattle.c25_meaning_instructions.specs.declared.mnemonic.PlainName.{PlainName}
use Rattle.c25_meaning_instructions.specs.declared.mnemonic.PlainName.TheVariants as plain
use Rattle.c25_meaning_processor.specs.Arithmetic.{normalized}
use Rattle.c25_meaning_image.specs.Marks.{is_code}
use Rattle.c25_meaning_processor.specs.declared.registers.Registers.{Registers}
use Rattle.c25_meaning_processor.specs.declared.stop.Stop.TheVariants.{CodeWrite}
use Rattle.c25_meaning_processor.specs.State.{World, StepResult, data_at, with_program, in_program_b0, loaded_marks}
use Rattle.c25_meaning_processor.specs.Operand.{address_of, after_operand}
use Rattle.c25_meaning_processor.specs.Effect.{to, store_program, input, mem_effect, mem_address, mem_operand, shifted_effect, ar_mem_effect, port_effect, bit_effect, short_effect, long_effect, long_mem_effect, plain_effect, norm_effect, operand_change, settle, operand_word, effect}
use Rattle.std.proofs.Common.{◌*◌}
use Rattle.std.specs.Prelude.{◌==◌}
use Rattle.std.proofs.lemmas.Bool.Decides.{nat_tests}
use Rattle.c25_page_laws.proofs.Words.{low_data}
use Rattle.c25_meaning_pages.specs.declared.known.Known.{Known}
use Rattle.c25_meaning_pages.specs.declared.known.Saved.{Saved}
use Rattle.c25_meaning_pages.specs.Known.{IsSaved, IsTrueOf, Implies}
use Rattle.c25_meaning_pages.specs.KnownAfter.{loaded_page, known_after}

-- all that the second knows of registers, the first knows too
pub record Shows (k l : Known) : Type 0 where
  pub page : (p : ℕ) → l.page ≡ Some p → k.page ≡ Some p
  pub masked : l.masked ≡ true → k.masked ≡ true
  pub shadowed : l.shadowed ≡ true → k.shadowed ≡ true
  pub once : l.once ≡ true → k.once ≡ true
  pub asleep : l.asleep ≡ true → k.asleep ≡ true

pub shows : (k l : Known) → Implies k l → Shows k l
shows k l i = record { page = i.page; masked = i.masked; shadowed = i.shadowed; once = i.once; asleep = i.asleep }

pub weaker : (k l : Known) (r : Registers) → IsTrueOf k r → Shows k l → IsTrueOf l r
weaker k l r h i =
    record {
      page = λ p e. h.page p (i.page p e);
      masked = λ e. h.masked (i.masked e);
      shadowed = λ e. h.shadowed (i.shadowed e);
      once = λ e. h.once (i.once e);
      asleep = λ e. h.asleep (i.asleep e);
    }

-- the same of as many words pushed as one likes
pub with_pushed : (k : Known) (n : ℕ) (r : Registers) → IsTrueOf k r → IsTrueOf (record k { pushed = n }) r
with_pushed k n r h = record { page = h.page; masked = h.masked; shadowed = h.shadowed; once = h.once; asleep = h.asleep }

-- a processor that is awake is not known to be asleep
pub awake : (k : Known) (r : Registers) → IsTrueOf k r → r.asleep ≡ false → k.asleep ≡ false
awake k r h is = go k.asleep refl
  where
    go : (b : Bool) → k.asleep ≡ b → k.asleep ≡ false
    go true e = absurd (let t : r.asleep ≡ true = h.asleep e in cc)
    go false e = e

pub and_true : (x y : Bool) → (x && y) ≡ true → (x ≡ true) × (y ≡ true)
and_true true y e = (refl, e)
and_true false y e = absurd (cc)

-- ---- instructions that move neither PC nor the stack

-- the registers before the effect of an instruction: they are as known, but EINT's shadow is over, and where `o` says so, no repeat is running
pub record Ready (k : Known) (o : Bool) (r : Registers) : Type 0 where
  pub page : (p : ℕ) → k.page ≡ Some p → r.dp ≡ p
  pub masked : k.masked ≡ true → r.intm ≡ true
  pub once : o ≡ true → r.repeating ≡ false

-- what is known after an instruction, and of repeats only where `o` says so
abbrev pub then_known : Insn → Known → Bool → Known
then_known i k o = record (known_after i k) { once = (known_after i k).once && o }

abbrev pub Ends : Known → Registers → StepResult → Type 0
Ends l r (Ok s) = IsTrueOf l s.registers × (s.registers.pc ≡ r.pc) × (s.registers.stack ≡ r.stack)
Ends l r (Err stop) = Unit {0}

abbrev pub moves : Insn → Bool
moves (insn.Jump name target change ar) = true
moves (insn.Plain plain.Trap o) = true
moves (insn.Plain plain.Ret o) = true
moves (insn.Plain plain.Cala o) = true
moves (insn.Plain plain.Bacc o) = true
moves (insn.Plain plain.Push o) = true
moves (insn.Plain plain.Pop o) = true
moves (insn.Mem mem.Pshd o) = true
moves (insn.Mem mem.Popd o) = true
moves i = false

-- the registers after an operand
pub operand_true : (l : Known) (a : Addr) (arp : ℕ) (r : Registers) → IsTrueOf l r → IsTrueOf l (after_operand a arp r)
operand_true l (Direct low) arp r h = h
operand_true l (Indirect change None) arp r h = record { page = h.page; masked = h.masked; shadowed = h.shadowed; once = h.once; asleep = h.asleep }
operand_true l (Indirect change (Some next)) arp r h = record { page = h.page; masked = h.masked; shadowed = h.shadowed; once = h.once; asleep = h.asleep }

pub operand_pc : (a : Addr) (arp : ℕ) (r : Registers) → (after_operand a arp r).pc ≡ r.pc
operand_pc (Direct low) arp r = refl
operand_pc (Indirect change None) arp r = refl
operand_pc (Indirect change (Some next)) arp r = refl

pub operand_stack : (a : Addr) (arp : ℕ) (r : Registers) → (after_operand a arp r).stack ≡ r.stack
operand_stack (Direct low) arp r = refl
operand_stack (Indirect change None) arp r = refl
operand_stack (Indirect change (Some next)) arp r = refl

settle_ends : (l : Known) (r : Registers) (a : Addr) (arp : ℕ) (o : StepResult) → Ends l r o → Ends l r (settle a arp o)
settle_ends l r a arp (Ok s) h = (operand_true l a arp s.registers h.0, operand_pc a arp s.registers ∙ h.1, operand_stack a arp s.registers ∙ h.2)
settle_ends l r a arp (Err stop) h = tt

-- what LST loads
abbrev Loads : MemName → Addr → Known → ℕ → Type 0
Loads mem.Lst a k m = (p : ℕ) → (known_after (insn.Mem mem.Lst a) k).page ≡ Some p → m % 512 ≡ p
Loads name a k m = Unit {0}

module _ (k : Known) (o : Bool) (r : Registers) (h : Ready k o r) (still : r.shadowed ≡ false) where
  -- what is known after most instructions
  abbrev most : Known
  most = record k { shadowed = false; once = o; asleep = false }

  same : IsTrueOf most r
  same = record { page = h.page; masked = h.masked; shadowed = λ e. absurd (cc); once = h.once; asleep = λ f. absurd (cc) }

  store_program_ends : (address word : ℕ) (w : World) → Ends most r (store_program address word r w)
  store_program_ends address word w = go (is_code (loaded_marks w) address && not (r.cnf && in_program_b0 address))
    where
      go : (b : Bool) → Ends most r (if b then Err CodeWrite else to r (with_program r.cnf w address word))
      go true = tt
      go false = (same, refl, refl)

  loads : (name : MemName) (a : Addr) (w : World) → IsSaved k w.words → Loads name a k (data_at r.cnf w (mem_address name a r))
  loads mem.Lst (Indirect change next) w saved = λ p e. absurd (cc)
  loads mem.Lst (Direct low) w saved = λ p e. go p k.page refl k.saved refl e
    where
      go : (p : ℕ) (q : Option ℕ) → k.page ≡ q → (s : Option Saved) → k.saved ≡ s → loaded_page q s low ≡ Some p → data_at r.cnf w (r.dp * 128 + low % 128) % 512 ≡ p
      go p None e s f g = absurd (cc)
      go p (Some q) e None f g = absurd (cc)
      go p (Some q) e (Some v) f g = at (q == 0 && (v.address == low % 128)) refl g
        where
          at : (b : Bool) → (q == 0 && (v.address == low % 128)) ≡ b → (if b then Some v.page else None) ≡ Some p → data_at r.cnf w (r.dp * 128 + low % 128) % 512 ≡ p
          at false b z = absurd (cc)
          at true b z =
              let y = and_true (q == 0) (v.address == low % 128) b in
              let zero_page : q ≡ 0 = grind (arith, nat_tests, y.0) in
              let there : v.address ≡ low % 128 = grind (arith, nat_tests, y.1) in
              let dp : r.dp ≡ q = h.page q e in
              let is : r.dp * 128 + low % 128 ≡ v.address = omega (arith, zero_page, there, dp) in
              let held_page : w.words v.address % 512 ≡ v.page = (saved v f).1 in
              let same_page : v.page ≡ p = cc in
              subst (λ (x : ℕ). data_at r.cnf w x % 512 ≡ p) (sym is) (ap (λ (x : ℕ). x % 512) (low_data r.cnf w v.address (saved v f).0) ∙ held_page ∙ same_page)
  loads name a w saved = tt

  mem_ends : (name : MemName) (a : Addr) (m address n : ℕ) (w : World) → Loads name a k m → moves (insn.Mem name a) ≡ false → Ends (then_known (insn.Mem name a) k o) r (mem_effect name m address n r w)
  mem_ends mem.Pshd a m address n w l e = absurd (cc)
  mem_ends mem.Popd a m address n w l e = absurd (cc)
  mem_ends mem.Tblw a m address n w l e = store_program_ends _ _ w
  mem_ends mem.Ldp a m address n w l e =
      (record { page = λ p f. absurd (cc); masked = h.masked; shadowed = λ f. absurd (cc); once = h.once; asleep = λ f. absurd (cc) }, refl, refl)
  mem_ends mem.Lst (Direct low) m address n w l e =
      (record { page = l; masked = h.masked; shadowed = λ f. absurd (cc); once = h.once; asleep = λ f. absurd (cc) }, refl, refl)
  mem_ends mem.Lst (Indirect change next) m address n w l e =
      (record { page = λ p f. absurd (cc); masked = h.masked; shadowed = λ f. absurd (cc); once = h.once; asleep = λ f. absurd (cc) }, refl, refl)
  mem_ends mem.Rpt a m address n w l e =
      (record { page = h.page; masked = h.masked; shadowed = λ f. absurd (cc); once = λ f. absurd (cc); asleep = λ f. absurd (cc) }, refl, refl)
  mem_ends name a m address n w l e = (record { page = h.page; masked = h.masked; shadowed = λ f. absurd (cc); once = h.once; asleep = λ f. absurd (cc) }, refl, refl)

  shifted_ends : (name : ShiftedName) (m address s : ℕ) (w : World) → Ends most r (shifted_effect name m address s r w)
  shifted_ends shifted.Add m address s w = (record { page = h.page; masked = h.masked; shadowed = λ f. absurd (cc); once = h.once; asleep = λ f. absurd (cc) }, refl, refl)
  shifted_ends name m address s w = (record { page = h.page; masked = h.masked; shadowed = λ f. absurd (cc); once = h.once; asleep = λ f. absurd (cc) }, refl, refl)

  ar_mem_ends : (name : ArMemName) (register : ℕ) (a : Addr) (m address : ℕ) (w : World) → Ends most r (ar_mem_effect name register a m address r w)
  ar_mem_ends ar_mem.Lar register a m address w =
      let t = operand_true most a r.arp r same in
      (record { page = t.page; masked = t.masked; shadowed = t.shadowed; once = t.once; asleep = t.asleep }, operand_pc a r.arp r, operand_stack a r.arp r)
  ar_mem_ends ar_mem.Sar register a m address w = (operand_true most a r.arp r same, operand_pc a r.arp r, operand_stack a r.arp r)

  input_ends : (sample : Option ℕ) (address number : ℕ) (w : World) → Ends most r (input sample address number r w)
  input_ends None address number w = tt
  input_ends (Some word) address number w = (same, refl, refl)

  port_ends : (name : PortName) (m address number : ℕ) (w : World) → Ends most r (port_effect name m address number r w)
  port_ends port.In m address number w = input_ends (slice_get (w.samples number) 0) address number w
  port_ends port.Out m address number w = (same, refl, refl)

  short_ends : (name : ShortName) (register : ℕ) (n : ℤ) (w : World) → Ends (then_known (insn.Short name register n) k o) r (to (short_effect name register n r) w)
  short_ends short.Ldpk register n w =
      (record { page = λ p f. cc; masked = h.masked; shadowed = λ f. absurd (cc); once = h.once; asleep = λ f. absurd (cc) }, refl, refl)
  short_ends short.Rptk register n w =
      (record { page = h.page; masked = h.masked; shadowed = λ f. absurd (cc); once = λ f. absurd (cc); asleep = λ f. absurd (cc) }, refl, refl)
  short_ends name register n w = (record { page = h.page; masked = h.masked; shadowed = λ f. absurd (cc); once = h.once; asleep = λ f. absurd (cc) }, refl, refl)

  long_ends : (name : LongName) (number high : ℕ) (w : World) → Ends most r (to (long_effect name number high r) w)
  long_ends long.Lrlk number high w = (record { page = h.page; masked = h.masked; shadowed = λ f. absurd (cc); once = h.once; asleep = λ f. absurd (cc) }, refl, refl)
  long_ends name number high w = (record { page = h.page; masked = h.masked; shadowed = λ f. absurd (cc); once = h.once; asleep = λ f. absurd (cc) }, refl, refl)

  long_mem_ends : (name : LongMemName) (at m address : ℕ) (w : World) → Ends most r (long_mem_effect name at m address r w)
  long_mem_ends long_mem.Mac at m address w = (record { page = h.page; masked = h.masked; shadowed = λ f. absurd (cc); once = h.once; asleep = λ f. absurd (cc) }, refl, refl)
  long_mem_ends name at m address w = (record { page = h.page; masked = h.masked; shadowed = λ f. absurd (cc); once = h.once; asleep = λ f. absurd (cc) }, refl, refl)

  norm_ends : (v : Option ℕ) (change : Change) (w : World) → Ends most r (to (norm_effect v change r) w)
  norm_ends None change w = (record { page = h.page; masked = h.masked; shadowed = λ f. absurd (cc); once = h.once; asleep = λ f. absurd (cc) }, refl, refl)
  norm_ends (Some v) change w = (record { page = h.page; masked = h.masked; shadowed = λ f. absurd (cc); once = h.once; asleep = λ f. absurd (cc) }, refl, refl)

  plain_ends : (name : PlainName) (p : PlainOperand) (w : World) → moves (insn.Plain name p) ≡ false → Ends (then_known (insn.Plain name p) k o) r (to (plain_effect name p r) w)
  plain_ends plain.Trap p w e = absurd (cc)
  plain_ends plain.Ret p w e = absurd (cc)
  plain_ends plain.Cala p w e = absurd (cc)
  plain_ends plain.Bacc p w e = absurd (cc)
  plain_ends plain.Push p w e = absurd (cc)
  plain_ends plain.Pop p w e = absurd (cc)
  plain_ends plain.Dint p w e =
      (record { page = h.page; masked = λ f. refl; shadowed = λ f. absurd (cc); once = h.once; asleep = λ f. absurd (cc) }, refl, refl)
  plain_ends plain.Eint p w e =
      (record { page = h.page; masked = λ f. absurd (cc); shadowed = λ f. refl; once = h.once; asleep = λ f. absurd (cc) }, refl, refl)
  plain_ends plain.Idle p w e =
      (record { page = h.page; masked = λ f. absurd (cc); shadowed = λ f. absurd (cc); once = h.once; asleep = λ f. refl }, refl, refl)
  plain_ends plain.Norm p w e = norm_ends (normalized r.acc.value) (operand_change p) w
  plain_ends name p w e = (record { page = h.page; masked = h.masked; shadowed = λ f. absurd (cc); once = h.once; asleep = λ f. absurd (cc) }, refl, refl)

  pub effect_ends : (i : Insn) (n : ℕ) (bio : Bool) (w : World) → IsSaved k w.words → moves i ≡ false → Ends (then_known i k o) r (effect i n bio r w)
  unfolding effect
  effect_ends (insn.Mem name a) n bio w saved e =
      settle_ends _ r (mem_operand name a) r.arp _ (mem_ends name a (data_at r.cnf w (mem_address name a r)) (mem_address name a r) n w (loads name a w saved) e)
  effect_ends (insn.Shifted name a s) n bio w saved e = settle_ends _ r a r.arp _ (shifted_ends name (operand_word a r w) (address_of a r) s w)
  effect_ends (insn.ArMem name register a) n bio w saved e = ar_mem_ends name register a (operand_word a r w) (address_of a r) w
  effect_ends (insn.Port name a number) n bio w saved e = settle_ends _ r a r.arp _ (port_ends name (operand_word a r w) (address_of a r) number w)
  effect_ends (insn.Bit name a code) n bio w saved e =
      let b = bit_effect (operand_word a r w) code r in
      (operand_true most a r.arp b (record { page = h.page; masked = h.masked; shadowed = λ f. absurd (cc); once = h.once; asleep = λ f. absurd (cc) }), operand_pc a r.arp b, operand_stack a r.arp b)
  effect_ends (insn.Short name register number) n bio w saved e = short_ends name register number w
  effect_ends (insn.Long name number high) n bio w saved e = long_ends name number high w
  effect_ends (insn.LongMem name word a) n bio w saved e =
      settle_ends _ r a r.arp _ (long_mem_ends name ((word + n) % 2 ^ 16) (operand_word a r w) (address_of a r) w)
  effect_ends (insn.Jump name target change next) n bio w saved e = absurd (cc)
  effect_ends (insn.Plain name p) n bio w saved e = plain_ends name p w e
