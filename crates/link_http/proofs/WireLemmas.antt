-- Calls of a dialer in turn.
use Rattle.std.proofs.Common.{◌≡◌, refl, sym, ◌∙◌, arith, subst, Bool, true, false}
use Rattle.text_base.specs.Causes.{Rose}
use Rattle.link_http.specs.Wire.{Wire, Counts}

false_true : false ≡ true → ⊥
false_true e = absurd (cc)

-- No call was made.
pub counts_none : (wire : Wire) → Counts wire wire false
counts_none wire = record {
  never_falls = omega arith;
  rises = λ f. absurd (false_true f);
  still = λ _. refl;
  steady = λ s. s;
  no_fault = λ _. refl;
  serves = λ s. s;
  tells = λ s. s;
  goes_on = λ s. s;
}

-- After good calls the last one decides.
pub counts_both : (first between last : Wire) (failed : Bool) → Counts first between false → Counts between last failed → Counts first last failed
counts_both first between last failed a b =
    let same : between.faults ≡ first.faults = a.still refl in
    record {
      never_falls = omega (arith, a.never_falls, b.never_falls);
      rises = λ f. subst (λ n. Rose n last.faults) same (b.rises f);
      still = λ g. b.still g ∙ same;
      steady = λ s. b.steady (a.steady s);
      no_fault = λ s. b.no_fault (a.steady s);
      serves = λ s. b.serves (a.serves s);
      tells = λ s. a.tells (b.tells s);
      goes_on = λ s. b.goes_on (a.goes_on s);
    }

-- A last call that does not fail.
pub counts_then : (first between last : Wire) (failed : Bool) → Counts first between failed → Counts between last false → Counts first last failed
counts_then first between last failed a b =
    let same : last.faults ≡ between.faults = b.still refl in
    record {
      never_falls = omega (arith, a.never_falls, b.never_falls);
      rises = λ f. subst (λ n. Rose first.faults n) (sym same) (a.rises f);
      still = λ g. same ∙ a.still g;
      steady = λ s. b.steady (a.steady s);
      no_fault = a.no_fault;
      serves = λ s. b.serves (a.serves s);
      tells = λ s. a.tells (b.tells s);
      goes_on = λ s. b.goes_on (a.goes_on s);
    }

-- The same calls, where they are told otherwise.
pub counts_as : (old new : Wire) (failed told : Bool) → told ≡ failed → Counts old new failed → Counts old new told
counts_as old new failed told same counts = subst (λ (f : Bool). Counts old new f) (sym same) counts
