-- The first fault and all others.
use Rattle.std.proofs.Common.{◌≡◌, ℕ, List, ◌∷◌, filter, map, Result, Ok, Err, IfOk, String, refl, sym, subst}
use Rattle.std.specs.declared.alloc.Global.{Global}
use Rattle.std.specs.declared.vec.Vec.{Vec}
use Rattle.c25_meaning_common.specs.declared.placed.Placed.{Placed}
use Rattle.c25_meaning_linking.specs.Command.{CommandData}
use Rattle.c25_meaning_linking.specs.Linking.{IsRefusal}
use Rattle.c25_meaning_linking.specs.declared.link_fault.LinkFault.{LinkFault}
use Rattle.c25_meaning_objects.specs.Module.{Contents}
use Rattle.c25_place.specs.View.{refusal_of}
use Rattle.c25_link_faults.specs.Faults.{AreLinkFaults, independent, is_other}

pub first_and_others : {E : Type 0} (modules : List Contents) (command : CommandData) (first : Placed (List ℕ) LinkFault) (r : Result (Vec (Placed (String Global) LinkFault) Global) E) → IsRefusal modules command first
    → IfOk r (λ v. map refusal_of v.items ≡ first ∷ filter (is_other first) (independent modules command)) → IfOk r (λ v. AreLinkFaults modules command (map refusal_of v.items))
first_and_others modules command first (Ok v) refused is = subst (AreLinkFaults modules command) (sym is) (refused, refl)
first_and_others modules command first (Err e) refused is = is
