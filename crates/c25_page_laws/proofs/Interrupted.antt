-- An interrupt leads to the beginning of its routine.
use Rattle.std.proofs.Common.{◌≡◌, ℕ, Bool, true, false, ◌&&◌, ◌||◌, if◌then◌else◌, refl}
use Rattle.c25_meaning_processor.specs.declared.registers.Registers.{Registers}
use Rattle.c25_meaning_processor.specs.declared.lines.Lines.{Lines}
use Rattle.c25_meaning_processor.specs.State.{World, State}
use Rattle.c25_meaning_processor.specs.Step.{begun, has, interrupted, latched, taken_under, vectored}
use Rattle.c25_meaning_processor.specs.Statements.{Statements}
use Rattle.c25_page_laws.proofs.Left.{and_true}
use Rattle.c25_page_laws.proofs.Stack.{Fits, into}
use Rattle.c25_meaning_pages.specs.Inductive.{IsInductive}
use Rattle.c25_meaning_pages.specs.Known.{Knowledge}
use Rattle.c25_meaning_pages.specs.Routines.{known_on_entry, Interrupts}
use Rattle.c25_meaning_pages.specs.Supposed.{LetsNoOther}

or_false : (x y : Bool) → (x || y) ≡ false → (x ≡ false) × (y ≡ false)
or_false true y e = absurd (cc)
or_false false y e = (refl, e)

not_known : (m x : Bool) → (m ≡ true → x ≡ true) → x ≡ false → m ≡ false
not_known true x h e = absurd (let t : x ≡ true = h refl in cc)
not_known false x h e = refl

module _ (ss : Statements) (a : Knowledge) (inductive : IsInductive ss a) where
  abbrev Lets : ℕ → Type 0
  Lets mask = LetsNoOther a mask

  vectored_fits : (line vector : ℕ) (r : Registers) (w : World) (f : Fits a r w) → r.repeating ≡ false → Interrupts a f.known line vector f.context r.pc → has a.lines line ≡ true → Fits a (vectored line vector r) w
  vectored_fits line vector r w f once i lets =
      into a (known_on_entry f.known) f.context vector r.pc f.callers r.stack (vectored line vector r) w f.memory (i lets)
      (record { page = f.holds.page; masked = λ e. refl; shadowed = λ e. absurd (cc); once = λ e. once; asleep = λ e. absurd (cc) })
      refl refl f.stacked f.deep

  taken_fits : (mask : ℕ) (r : Registers) (w : World) → Lets mask → Fits a r w → r.repeating ≡ false → r.shadowed ≡ false → r.intm ≡ false → Fits a (taken_under mask r) w
  unfolding taken_under
  taken_fits mask r w lets f once still free =
      first (has r.latched.0 1 && has mask 1) refl
    where
      may : Interrupts a f.known 1 2 f.context r.pc × Interrupts a f.known 2 4 f.context r.pc × Interrupts a f.known 4 6 f.context r.pc
      may = inductive.interrupts f.context r.pc f.known f.here (not_known f.known.masked r.intm f.holds.masked free) (not_known f.known.shadowed r.shadowed f.holds.shadowed still)

      third : (b : Bool) → (has r.latched.0 4 && has mask 4) ≡ b → Fits a (if b then vectored 4 6 r else r) w
      third true e = vectored_fits 4 6 r w f once may.2 (lets.2 (and_true (has r.latched.0 4) (has mask 4) e).1)
      third false e = f

      second : (b : Bool) → (has r.latched.0 2 && has mask 2) ≡ b → Fits a (if b then vectored 2 4 r else (if has r.latched.0 4 && has mask 4 then vectored 4 6 r else r)) w
      second true e = vectored_fits 2 4 r w f once may.1 (lets.1 (and_true (has r.latched.0 2) (has mask 2) e).1)
      second false e = third (has r.latched.0 4 && has mask 4) refl

      first : (b : Bool) → (has r.latched.0 1 && has mask 1) ≡ b → Fits a (if b then vectored 1 2 r else (if has r.latched.0 2 && has mask 2 then vectored 2 4 r else (if has r.latched.0 4 && has mask 4 then vectored 4 6 r else r))) w
      first true e = vectored_fits 1 2 r w f once may.0 (lets.0 (and_true (has r.latched.0 1) (has mask 1) e).1)
      first false e = second (has r.latched.0 2 && has mask 2) refl

  latched_fits : (lines : Lines) (r : Registers) (w : World) → Fits a r w → Fits a (latched lines r) w
  latched_fits lines r w f =
      record {
        context = f.context;
        callers = f.callers;
        known = f.known;
        here = f.here;
        holds = record { page = f.holds.page; masked = f.holds.masked; shadowed = f.holds.shadowed; once = f.holds.once; asleep = f.holds.asleep };
        memory = f.memory;
        stacked = f.stacked;
        deep = f.deep;
      }

  interrupted_fits : (mask : ℕ) (r : Registers) (w : World) → Lets mask → Fits a r w → Fits a (interrupted mask r) w
  interrupted_fits mask r w lets f = go (r.repeating || r.shadowed || r.intm) refl
    where
      go : (b : Bool) → (r.repeating || r.shadowed || r.intm) ≡ b → Fits a (if b then r else taken_under mask r) w
      go true e = f
      go false e =
          let p = or_false (r.repeating || r.shadowed) r.intm e in
          let q = or_false r.repeating r.shadowed p.0 in
          taken_fits mask r w lets f q.0 q.1 p.1

  pub begun_fits : (lines : Lines) (s : State) → Lets (s.world.words 4) → Fits a s.registers s.world → Fits a (begun lines s) s.world
  begun_fits lines s lets f = interrupted_fits (s.world.words 4) (latched lines s.registers) s.world lets (latched_fits lines s.registers s.world f)
