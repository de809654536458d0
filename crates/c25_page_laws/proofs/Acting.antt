-- A statement that acts leads on to where no more is known.
use Rattle.std.proofs.Common.{◌≡◌, ℕ, ◌+◌, ◌-◌, ◌%◌, ◌^◌, ◌≤◌, ◌⊎◌, Bool, true, false, ◌&&◌, if◌then◌else◌, Option, None, Some, Ok, Err, List, refl, sym, ap, ◌∙◌, subst, arith, inl, inr}
use Rattle.std.specs.Prelude.{nat_lt, drop}
use Rattle.std.specs.Option.{option_and_then}
use Rattle.c25_meaning_instructions.specs.declared.insn.Addr.TheVariants.{Direct, Indirect}
use Rattle.c25_meaning_instructions.specs.declared.insn.Change.{Change}
use Rattle.c25_meaning_instructions.specs.declared.insn.Insn.{Insn}
use Rattle.c25_meaning_instructions.specs.declared.insn.Insn.TheVariants as insn
use Rattle.c25_meaning_instructions.specs.declared.mnemonic.MemName.TheVariants as mem
use Rattle.c25_meaning_instructions.specs.declared.mnemonic.JumpName.{JumpName}
use Rattle.c25_meaning_instructions.specs.declared.mnemonic.JumpName.TheVariants as jump
use Rattle.c25_meaning_instructions.specs.declared.mnemonic.PlainName.TheVariants as plain
use Rattle.c25_meaning_instructions.specs.declared.mnemonic.ShortName.TheVariants as short
use Rattle.c25_meaning_instructions.specs.Table.{size_of}
use Rattle.c25_meaning_processor.specs.declared.registers.Registers.{Registers}
use Rattle.c25_meaning_processor.specs.declared.lines.Lines.{Lines}
use Rattle.c25_meaning_processor.specs.declared.stop.Stop.TheVariants.{BadRepeat}
use Rattle.c25_meaning_processor.specs.State.{World, State, StepResult, data_at, under, holds}
use Rattle.c25_meaning_processor.specs.Operand.{after_operand}
use Rattle.c25_meaning_processor.specs.Effect.{jump_effect, branch, effect, mem_address, popped, push}
use Rattle.c25_meaning_processor.specs.Step.{advanced, begun, clear_of_b0, executed, is_unrepeatable, stepped}
use Rattle.c25_meaning_processor.specs.Statements.{Statements, Copied, copied_at, outside_b0, standing, standing_by, statement_at, statement_step}
use Rattle.c25_meaning_instructions.specs.Table.{words}
use Rattle.std.proofs.Common.{◌<◌}
use Rattle.c25_meaning_processor.specs.State.{with_data}
use Rattle.c25_meaning_processor.specs.Status.{st0}
use Rattle.c25_page_laws.proofs.Words.{Same, effect_same, st0_page, data_there}
use Rattle.c25_page_laws.proofs.Left.{Shows, weaker, and_true, awake, Ready, then_known, Ends, operand_true, operand_pc, operand_stack, effect_ends}
use Rattle.c25_page_laws.proofs.Stack.{Stacked, Fits, FitsAfter, height, on, into, back_to, one_more, taken}
use Rattle.c25_page_laws.proofs.Interrupted.{begun_fits}
use Rattle.c25_meaning_pages.specs.Inductive.{MayStand, IsInductive}
use Rattle.c25_meaning_pages.specs.declared.known.Known.{Known}
use Rattle.c25_meaning_pages.specs.declared.known.Saved.{Saved}
use Rattle.c25_meaning_pages.specs.Known.{IsSaved, IsTrueOf, Implies, Knowledge, LeadsTo}
use Rattle.c25_meaning_pages.specs.KnownAfter.{written_address, Saves, Spares, IsSavedAfter, known_after}
use Rattle.c25_meaning_pages.specs.Routines.{LeadsOn, moves_word}
use Rattle.c25_meaning_pages.specs.Supposed.{IsSupposed, goes_by_accumulator}

module _ (ss : Statements) (a : Knowledge) (inductive : IsInductive ss a) where
  -- where a jump leads
  record Lands (r : Registers) (target : ℕ) (x : Registers) : Type 0 where
    pub goes : (x.pc ≡ target) ⊎ (x.pc ≡ r.pc)
    pub dp : x.dp ≡ r.dp
    pub intm : x.intm ≡ r.intm
    pub repeating : x.repeating ≡ r.repeating
    pub stack : x.stack ≡ r.stack

  branch_lands : (b : Bool) (r : Registers) (target : ℕ) → Lands r target (branch b target r)
  branch_lands true r target = record { goes = inl refl; dp = refl; intm = refl; repeating = refl; stack = refl }
  branch_lands false r target = record { goes = inr refl; dp = refl; intm = refl; repeating = refl; stack = refl }

  abbrev is_call : JumpName → Bool
  is_call jump.Call = true
  is_call name = false

  jump_lands : (name : JumpName) (r : Registers) (target : ℕ) (bio : Bool) → is_call name ≡ false → Lands r target (jump_effect name target bio r)
  jump_lands jump.Call r target bio e = absurd (cc)
  jump_lands jump.B r target bio e = record { goes = inl refl; dp = refl; intm = refl; repeating = refl; stack = refl }
  jump_lands jump.Bv r target bio e = go r.acc.ov
    where
      go : (b : Bool) → Lands r target (if b then record r { acc = record r.acc { ov = false }; pc = target } else r)
      go true = record { goes = inl refl; dp = refl; intm = refl; repeating = refl; stack = refl }
      go false = record { goes = inr refl; dp = refl; intm = refl; repeating = refl; stack = refl }
  jump_lands jump.Bnv r target bio e = go r.acc.ov
    where
      go : (b : Bool) → Lands r target (if b then record r { acc = record r.acc { ov = false } } else record r { pc = target })
      go true = record { goes = inr refl; dp = refl; intm = refl; repeating = refl; stack = refl }
      go false = record { goes = inl refl; dp = refl; intm = refl; repeating = refl; stack = refl }
  jump_lands name r target bio e = branch_lands _ r target

  and_same : (b : Bool) → b ≡ true → (b && true) ≡ true
  and_same b e = rw e refl

  known_done : (i : Insn) (k : Known) (s : Option Saved) → Shows (then_known i k true) (record (known_after i k) { saved = s })
  known_done i k s = record { page = λ p e. e; masked = λ e. e; shadowed = λ e. e; once = λ e. and_same (known_after i k).once e; asleep = λ e. e }

  known_again : (i : Insn) (k : Known) (s : Option Saved) → Shows (then_known i k false) (record (known_after i k) { saved = s; once = false })
  known_again i k s = record { page = λ p e. e; masked = λ e. e; shadowed = λ e. e; once = λ e. absurd (cc); asleep = λ e. e }

  -- what is known after an instruction leaves the words that were pushed
  pushed_kept : (i : Insn) (k : Known) → (known_after i k).pushed ≡ k.pushed
  pushed_kept (insn.Mem mem.Ldp o) k = refl
  pushed_kept (insn.Mem mem.Lst (Direct low)) k = refl
  pushed_kept (insn.Mem mem.Lst (Indirect change next)) k = refl
  pushed_kept (insn.Mem mem.Rpt o) k = refl
  pushed_kept (insn.Mem name o) k = refl
  pushed_kept (insn.Short short.Ldpk register n) k = refl
  pushed_kept (insn.Short short.Rptk register n) k = refl
  pushed_kept (insn.Short name register n) k = refl
  pushed_kept (insn.Plain plain.Dint o) k = refl
  pushed_kept (insn.Plain plain.Eint o) k = refl
  pushed_kept (insn.Plain plain.Idle o) k = refl
  pushed_kept (insn.Plain name o) k = refl
  pushed_kept i k = refl

  -- an instruction that goes on to the next one leads to where no more is known
  ends_fit : (k l : Known) (c : ℕ) (callers : List (ℕ × ℕ)) (x : Registers) (o : StepResult) → Shows k l → ((t : State) → o ≡ Ok t → IsSaved l t.world.words) → LeadsTo a l c x.pc → Stacked a l.pushed c callers x.stack → height callers ≤ a.depth c → Ends k x o → FitsAfter a o
  ends_fit k l c callers x (Ok s) implies memory leads stacked deep e =
      on a l c x.pc callers s.registers s.world (memory s refl) leads (weaker k l s.registers e.0 implies) e.1 (subst (λ (y : List ℕ). Stacked a l.pushed c callers y) (sym e.2) stacked) deep
  ends_fit k l c callers x (Err stop) implies memory leads stacked deep e = tt

  module _ (k : Known) (c : ℕ) (callers : List (ℕ × ℕ)) (x : Registers) (w : World) (n : ℕ) (bio : Bool) (stacked : Stacked a k.pushed c callers x.stack) (deep : height callers ≤ a.depth c) (still : x.shadowed ≡ false) (saved : IsSaved k w.words) (s : Option Saved) (address : ℕ) where
    abbrev gone : Known
    gone = record k { saved = s; shadowed = false; once = true; asleep = false }

    abbrev Left : Insn → Known → Type 0
    Left i l = (t : State) → effect i n bio x w ≡ Ok t → IsSaved l t.world.words

    jumped : (change : Change) (next : Option ℕ) (y : Registers) (address : ℕ) → IsSaved gone w.words → LeadsTo a gone c address → IsTrueOf gone y → y.pc ≡ address → y.stack ≡ x.stack → Fits a (after_operand (Indirect change next) x.arp y) w
    jumped change next y address memory leads h at is =
        let z = Indirect change next in
        on a gone c address callers (after_operand z x.arp y) w memory leads (operand_true gone z x.arp y h) (operand_pc z x.arp y ∙ at)
        (subst (λ (t : List ℕ). Stacked a k.pushed c callers t) (sym (operand_stack z x.arp y ∙ is)) stacked) deep

    either : (change : Change) (next : Option ℕ) (target : ℕ) (y : Registers) → IsSaved gone w.words → Ready k true x → Lands x target y → LeadsTo a gone c target → LeadsTo a gone c x.pc → Fits a (after_operand (Indirect change next) x.arp y) w
    either change next target y memory h l there on_ = go l.goes
      where
        t : IsTrueOf gone y
        t = record { page = λ p e. l.dp ∙ h.page p e; masked = λ e. l.intm ∙ h.masked e; shadowed = λ e. absurd (cc); once = λ e. l.repeating ∙ h.once refl; asleep = λ e. absurd (cc) }

        go : (y.pc ≡ target) ⊎ (y.pc ≡ x.pc) → Fits a (after_operand (Indirect change next) x.arp y) w
        go (inl e) = jumped change next y target memory there t e l.stack
        go (inr e) = jumped change next y x.pc memory on_ t e l.stack

    done_fits : (i : Insn) → (goes_by_accumulator i ≡ true → a.may_go address (x.acc.value % 2 ^ 16) ≡ true) → Ready k true x → Left i (record (known_after i k) { saved = s }) → LeadsOn a i (record (known_after i k) { saved = s }) c address x.pc → FitsAfter a (effect i n bio x w)
    unfolding effect
    done_fits (insn.Jump jump.B target change next) landed h m g =
        jumped change next (jump_effect jump.B target bio x) target (m _ refl) g
        (record { page = h.page; masked = h.masked; shadowed = λ e. absurd (cc); once = λ e. h.once refl; asleep = λ e. absurd (cc) }) refl refl
    done_fits (insn.Jump jump.Call target change next) landed h m g =
        let z = Indirect change next in
        let y = jump_effect jump.Call target bio x in
        into a gone c target x.pc callers x.stack (after_operand z x.arp y) w (m _ refl) g
        (operand_true gone z x.arp y (record { page = h.page; masked = h.masked; shadowed = λ e. absurd (cc); once = λ e. h.once refl; asleep = λ e. absurd (cc) }))
        (operand_pc z x.arp y) (operand_stack z x.arp y) stacked deep
    done_fits (insn.Jump name target change next) landed h m g = either change next target (jump_effect name target bio x) (m _ refl) h (jump_lands name x target bio refl) g.0 g.1
    done_fits (insn.Plain plain.Trap o) landed h m g =
        into a gone c 0x1E x.pc callers x.stack _ w (m _ refl) g
        (record { page = h.page; masked = h.masked; shadowed = λ e. absurd (cc); once = λ e. h.once refl; asleep = λ e. absurd (cc) }) refl refl stacked deep
    done_fits (insn.Plain plain.Ret o) landed h m g =
        back_to a gone c callers x.stack (drop 7 x.stack) _ w (m _ refl) g
        (record { page = h.page; masked = h.masked; shadowed = λ e. absurd (cc); once = λ e. h.once refl; asleep = λ e. absurd (cc) }) refl refl stacked
    done_fits (insn.Plain plain.Cala o) landed h m g =
        into a gone c (x.acc.value % 2 ^ 16) x.pc callers x.stack _ w (m _ refl) (g (x.acc.value % 2 ^ 16) (landed refl))
        (record { page = h.page; masked = h.masked; shadowed = λ e. absurd (cc); once = λ e. h.once refl; asleep = λ e. absurd (cc) }) refl refl stacked deep
    done_fits (insn.Plain plain.Bacc o) landed h m g =
        on a gone c (x.acc.value % 2 ^ 16) callers _ w (m _ refl) (g (x.acc.value % 2 ^ 16) (landed refl))
        (record { page = h.page; masked = h.masked; shadowed = λ e. absurd (cc); once = λ e. h.once refl; asleep = λ e. absurd (cc) }) refl stacked deep
    done_fits (insn.Plain plain.Push o) landed h m g =
        one_more a gone c x.pc (x.acc.value % 2 ^ 16) callers x.stack _ w (m _ refl) g
        (record { page = h.page; masked = h.masked; shadowed = λ e. absurd (cc); once = λ e. h.once refl; asleep = λ e. absurd (cc) }) refl refl stacked deep
    done_fits (insn.Plain plain.Pop o) landed h m g =
        taken a gone k.pushed c x.pc callers x.stack (drop 7 x.stack) _ w (m _ refl) g
        (record { page = h.page; masked = h.masked; shadowed = λ e. absurd (cc); once = λ e. h.once refl; asleep = λ e. absurd (cc) }) refl refl stacked deep
    done_fits (insn.Mem mem.Pshd o) landed h m g =
        let word = data_at x.cnf w (mem_address mem.Pshd o x) in
        let y = push word x in
        one_more a gone c x.pc word callers x.stack (after_operand o x.arp y) w (m _ refl) g
        (operand_true gone o x.arp y (record { page = h.page; masked = h.masked; shadowed = λ e. absurd (cc); once = λ e. h.once refl; asleep = λ e. absurd (cc) }))
        (operand_pc o x.arp y) (operand_stack o x.arp y) stacked deep
    done_fits (insn.Mem mem.Popd o) landed h m g =
        let y = record x { stack = popped x.stack } in
        taken a gone k.pushed c x.pc callers x.stack (drop 7 x.stack) (after_operand o x.arp y) _ (m _ refl) g
        (operand_true gone o x.arp y (record { page = h.page; masked = h.masked; shadowed = λ e. absurd (cc); once = λ e. h.once refl; asleep = λ e. absurd (cc) }))
        (operand_pc o x.arp y) (operand_stack o x.arp y) stacked deep
    done_fits i landed h m g = ends_fit (then_known i k true) (record (known_after i k) { saved = s }) c callers x (effect i n bio x w) (known_done i k s) m g (subst (λ (p : ℕ). Stacked a p c callers x.stack) (sym (pushed_kept i k)) stacked) deep (effect_ends k true x h still i n bio w saved refl)

    again_fits : (i : Insn) (next : ℕ) (s' : Option Saved) → is_unrepeatable i ≡ false → moves_word i ≡ false → Ready k false x → Left i (record (known_after i k) { saved = s'; once = false }) → LeadsOn a i (record (known_after i k) { saved = s }) c address next → Implies (record (known_after i k) { saved = s'; once = false }) k → a.known_at c x.pc ≡ Some k → FitsAfter a (effect i n bio x w)
    unfolding effect
    again_fits (insn.Jump name target change ar) next s' e f h m g r here = absurd (cc)
    again_fits (insn.Plain plain.Trap o) next s' e f h m g r here = absurd (cc)
    again_fits (insn.Plain plain.Ret o) next s' e f h m g r here = absurd (cc)
    again_fits (insn.Plain plain.Cala o) next s' e f h m g r here = absurd (cc)
    again_fits (insn.Plain plain.Bacc o) next s' e f h m g r here = absurd (cc)
    again_fits (insn.Plain plain.Push o) next s' e f h m g r here = absurd (cc)
    again_fits (insn.Plain plain.Pop o) next s' e f h m g r here = absurd (cc)
    again_fits (insn.Mem mem.Pshd o) next s' e f h m g r here = absurd (cc)
    again_fits (insn.Mem mem.Popd o) next s' e f h m g r here = absurd (cc)
    again_fits i next s' e f h m g r here = ends_fit (then_known i k false) (record (known_after i k) { saved = s'; once = false }) c callers x (effect i n bio x w) (known_again i k s') m (k, here, r) (subst (λ (p : ℕ). Stacked a p c callers x.stack) (sym (pushed_kept i k)) stacked) deep (effect_ends k false x h still i n bio w saved refl)

  -- ---- what is saved after an instruction

  abbrev SavedIn : Saved → StepResult → Type 0
  SavedIn v (Ok t) = (v.address < 128) × (t.world.words v.address % 512 ≡ v.page)
  SavedIn v (Err stop) = Unit {0}

  saves_true : (i : Insn) (k : Known) (v : Saved) (n : ℕ) (bio : Bool) (x : Registers) (w : World) → ((p : ℕ) → k.page ≡ Some p → x.dp ≡ p) → Saves i k v → SavedIn v (effect i n bio x w)
  unfolding effect
  saves_true (insn.Mem mem.Sst (Direct low)) k v n bio x w page h =
      let at : v.address ≡ low % 128 = h.0 in
      let small : low % 128 < 128 = omega arith in
      let dp : x.dp ≡ v.page = page v.page h.1 in
      let is : (with_data x.cnf w (low % 128) (st0 x)).words v.address ≡ st0 x = subst (λ (y : ℕ). (with_data x.cnf w (low % 128) (st0 x)).words y ≡ st0 x) (sym at) (data_there x.cnf w (low % 128) (st0 x) small) in
      let low_dp : v.page % 512 ≡ v.page = omega (arith, h.2) in
      (omega (arith, at, small), ap (λ (y : ℕ). y % 512) is ∙ st0_page x ∙ ap (λ (y : ℕ). y % 512) dp ∙ low_dp)
  saves_true i k v n bio x w page h = absurd h

  saved_after : (address : ℕ) (i : Insn) (k : Known) (s : Option Saved) (n : ℕ) (bio : Bool) (x : Registers) (w : World) → IsSavedAfter a address i k s → IsSaved k w.words → ((p : ℕ) → k.page ≡ Some p → x.dp ≡ p) → ((word : ℕ) → a.spared address ≡ Some word → written_address i x ≡ Some word → ⊥) → (t : State) → effect i n bio x w ≡ Ok t → (v : Saved) → s ≡ Some v → (v.address < 128) × (t.world.words v.address % 512 ≡ v.page)
  saved_after address i k s n bio x w is saved page spares t ends v e = go (is v e)
    where
      go : Saves i k v ⊎ ((k.saved ≡ Some v) × Spares a address i k v.address) → (v.address < 128) × (t.world.words v.address % 512 ≡ v.page)
      go (inl h) = subst (SavedIn v) ends (saves_true i k v n bio x w page h)
      go (inr h) =
          let before = saved v h.0 in
          let same_word : t.world.words v.address ≡ w.words v.address = subst (Same w v.address) ends (effect_same v.address before.0 i n bio x w (λ wr. spares v.address (h.1 x page wr) wr)) in
          (before.0, ap (λ (y : ℕ). y % 512) same_word ∙ before.1)

  -- ---- a step

  abbrev ahead : Registers → Insn → Bool → Registers
  ahead r i b = if b then record r { rptc = r.rptc - 1; repeated = (r.repeated + 1) % 2 ^ 16; shadowed = false } else record r { pc = (r.pc + size_of i) % 2 ^ 16; repeating = false; repeated = 0; shadowed = false }

  abbrev SparesAt : Registers → Insn → Type 0
  SparesAt r i = (word : ℕ) → a.spared r.pc ≡ Some word → written_address i (advanced (size_of i) r) ≡ Some word → ⊥

  abbrev LandsAt : Registers → Insn → Type 0
  LandsAt r i = goes_by_accumulator i ≡ true → a.may_go r.pc (r.acc.value % 2 ^ 16) ≡ true

  executed_fits : (bio : Bool) (i : Option Insn) (r : Registers) (w : World) → r.asleep ≡ false → ((j : Insn) → i ≡ Some j → MayStand ss r.pc j × SparesAt r j × LandsAt r j) → Fits a r w → FitsAfter a (executed bio i r w)
  executed_fits bio None r w up stands f = tt
  executed_fits bio (Some i) r w up stands f = go (r.repeating && is_unrepeatable i) refl
    where
      stands_here : MayStand ss r.pc i × SparesAt r i × LandsAt r i
      stands_here = stands i refl

      acts : (s : Option Saved) × IsSavedAfter a r.pc i f.known s × LeadsOn a i (record (known_after i f.known) { saved = s }) f.context r.pc ((r.pc + size_of i) % 2 ^ 16)
      acts = inductive.acts f.context r.pc f.known i f.here (awake f.known r f.holds up) stands_here.0

      once_known : (b : Bool) → f.known.once ≡ b → r.repeating ≡ true → f.known.once ≡ false
      once_known true e q = absurd (let z : r.repeating ≡ false = f.holds.once e in cc)
      once_known false e q = e

      advance : (b : Bool) → (r.repeating && nat_lt 0 r.rptc) ≡ b → (r.repeating && is_unrepeatable i) ≡ false → ((word : ℕ) → a.spared r.pc ≡ Some word → written_address i (ahead r i b) ≡ Some word → ⊥) → FitsAfter a (effect i r.repeated bio (ahead r i b) w)
      advance true e u spares =
          let q = (and_true r.repeating (nat_lt 0 r.rptc) e).0 in
          let un : is_unrepeatable i ≡ false = subst (λ (b : Bool). (b && is_unrepeatable i) ≡ false) q u in
          let again = inductive.repeats f.context r.pc f.known i f.here (awake f.known r f.holds up) stands_here.0 (once_known f.known.once refl q) in
          again_fits f.known f.context f.callers (ahead r i true) w r.repeated bio f.stacked f.deep refl f.memory acts.0 r.pc i _ again.0 un again.3 (record { page = f.holds.page; masked = f.holds.masked; once = λ z. absurd (cc) })
          (saved_after r.pc i f.known again.0 r.repeated bio (ahead r i true) w again.1 f.memory f.holds.page spares) acts.2 again.2 f.here
      advance false e u spares =
          done_fits f.known f.context f.callers (ahead r i false) w r.repeated bio f.stacked f.deep refl f.memory acts.0 r.pc i stands_here.2 (record { page = f.holds.page; masked = f.holds.masked; once = λ z. refl })
          (saved_after r.pc i f.known acts.0 r.repeated bio (ahead r i false) w acts.1 f.memory f.holds.page spares) acts.2

      go : (b : Bool) → (r.repeating && is_unrepeatable i) ≡ b → FitsAfter a (if b then Err BadRepeat else effect i r.repeated bio (advanced (size_of i) r) w)
      go true e = tt
      go false e = advance (r.repeating && nat_lt 0 r.rptc) refl e stands_here.1

  stepped_fits : (bio : Bool) (i : Option Insn) (r : Registers) (w : World) → (r.asleep ≡ false → (j : Insn) → i ≡ Some j → MayStand ss r.pc j × SparesAt r j × LandsAt r j) → Fits a r w → FitsAfter a (stepped bio i r w)
  unfolding stepped
  stepped_fits bio i r w stands f = go r.asleep refl
    where
      go : (b : Bool) → r.asleep ≡ b → FitsAfter a (if b then Ok (record { registers = r; world = w }) else executed bio i r w)
      go true e = f
      go false e = executed_fits bio i r w e (stands e) f

  -- an instruction that stands at PC is one that may stand there
  plainly_stands : (cnf : Bool) (pc : ℕ) (j : Insn) (o : Option Insn) → statement_at ss.plain pc ≡ o → option_and_then (outside_b0 cnf pc) o ≡ Some j → MayStand ss pc j
  plainly_stands cnf pc j None e h = absurd (cc)
  plainly_stands cnf pc j (Some i) e h = inl (e ∙ ap Some (kept (outside_b0 cnf pc i) refl h))
    where
      kept : (o : Option Insn) → outside_b0 cnf pc i ≡ o → o ≡ Some j → i ≡ j
      kept o q z = go (clear_of_b0 cnf pc (size_of i)) (q ∙ z)
        where
          go : (b : Bool) → (if b then Some i else None) ≡ Some j → i ≡ j
          go true t = cc
          go false t = absurd (cc)

  stands : (cnf : Bool) (w : World) (pc : ℕ) (j : Insn) → standing ss cnf w pc ≡ Some j → MayStand ss pc j
  stands cnf w pc j h = go (copied_at ss.copied pc) refl h
    where
      held_is : (c : Copied) (b : Bool) → (if b then Some c.insn else None) ≡ Some j → c.insn ≡ j
      held_is c true e = cc
      held_is c false e = absurd (cc)

      at : (c : Copied) → copied_at ss.copied pc ≡ Some c → (b : Bool) → standing_by ss cnf w pc (if b then Some c else None) ≡ Some j → MayStand ss pc j
      at c e true z = inr (c, e, held_is c (holds w c.run (words c.insn)) z)
      at c e false z = plainly_stands cnf pc j (statement_at ss.plain pc) refl z

      go : (o : Option Copied) → copied_at ss.copied pc ≡ o → standing_by ss cnf w pc (option_and_then (under cnf) o) ≡ Some j → MayStand ss pc j
      go None e z = plainly_stands cnf pc j (statement_at ss.plain pc) refl z
      go (Some c) e z = at c e cnf z

  pub step_fits : (lines : Lines) (bio : Bool) (s : State) → IsSupposed ss a lines s → Fits a s.registers s.world → FitsAfter a (statement_step ss lines bio s)
  step_fits lines bio s supposed f =
      let r = begun lines s in
      stepped_fits bio (standing ss r.cnf s.world r.pc) r s.world (λ up j e. (stands r.cnf s.world r.pc j e, λ word. supposed.spares j word up e, supposed.goes j up e)) (begun_fits ss a inductive lines s supposed.lets f)
