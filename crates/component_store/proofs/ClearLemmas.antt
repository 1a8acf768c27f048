-- What the removal of a component's files leaves.
use Rattle.std.proofs.Common.{◌≡◌, Bool, true, false, IsTrue, refl, sym, ◌∙◌, ap, subst}
use Rattle.std.specs.Prelude.{Option, None, bytes_eq, not, ◌&&◌, ◌||◌, if◌then◌else◌}
use Rattle.folder_base.specs.Disk.{Name, File, Names, May, put, begins}
use Rattle.folder_base.specs.Story.{Story, Through}
use Rattle.folder_steps.specs.Follow.{Follows, Thinner}
use Rattle.folder_steps.proofs.RemovalLemmas.{thin_runs}
use Rattle.plan_record.specs.Names.{record_of, spare_of, joined_of, pieces_of, begins as begins_with}
use Rattle.component_store.specs.Tidy.{is_cleared}
use Rattle.component_store.proofs.FamilyLemmas.{begins_one}

or_left : (a b : Bool) → IsTrue a → IsTrue (a || b)
or_left true b h = refl
or_left false b h = cc

or_right : (a b : Bool) → IsTrue b → IsTrue (a || b)
or_right true b h = refl
or_right false b h = h

-- Each of them goes.
module _ (component : Name) (component_stays record_stays : Bool) (n : Name) where
  abbrev r : Bool
  r = not record_stays && bytes_eq (record_of component) n

  abbrev s : Bool
  s = bytes_eq (spare_of component) n

  abbrev p : Bool
  p = bytes_eq (joined_of component) n

  abbrev f : Bool
  f = begins_with (pieces_of component) n

  abbrev c : Bool
  c = not component_stays && bytes_eq component n

  pub record_goes : IsTrue r → IsTrue (is_cleared component component_stays record_stays n)
  record_goes h = or_left (r || (s || (p || f))) c (or_left r (s || (p || f)) h)

  pub spare_goes : IsTrue s → IsTrue (is_cleared component component_stays record_stays n)
  spare_goes h = or_left (r || (s || (p || f))) c (or_right r (s || (p || f)) (or_left s (p || f) h))

  pub joined_goes : IsTrue p → IsTrue (is_cleared component component_stays record_stays n)
  joined_goes h = or_left (r || (s || (p || f))) c (or_right r (s || (p || f)) (or_right s (p || f) (or_left p f h)))

  pub pieces_go : IsTrue f → IsTrue (is_cleared component component_stays record_stays n)
  pieces_go h = or_left (r || (s || (p || f))) c (or_right r (s || (p || f)) (or_right s (p || f) (or_right p f h)))

  pub self_goes : IsTrue c → IsTrue (is_cleared component component_stays record_stays n)
  self_goes h = or_right (r || (s || (p || f))) c h

-- One removal more, while they are removed.
module _ (component : Name) (component_stays record_stays : Bool) where
  pub spare_step : {old mid new : Story} {name : Name} → Through old mid (Follows (May old.now) (Thinner (is_cleared component component_stays record_stays))) → name ≡ spare_of component
      → Through mid new (Follows (May mid.now) (Thinner (bytes_eq name))) → Through old new (Follows (May old.now) (Thinner (is_cleared component component_stays record_stays)))
  spare_step {old} {mid} {new} {name} so_far is run = thin_runs (bytes_eq name) (is_cleared component component_stays record_stays) (λ n h. spare_goes component component_stays record_stays n (subst (λ (m : Name). IsTrue (bytes_eq m n)) is h)) so_far run

  pub pieces_step : {old mid new : Story} {name : Name} → Through old mid (Follows (May old.now) (Thinner (is_cleared component component_stays record_stays))) → name ≡ pieces_of component
      → Through mid new (Follows (May mid.now) (Thinner (begins name))) → Through old new (Follows (May old.now) (Thinner (is_cleared component component_stays record_stays)))
  pieces_step {old} {mid} {new} {name} so_far is run = thin_runs (begins name) (is_cleared component component_stays record_stays) (λ n h. pieces_go component component_stays record_stays n (sym (begins_one (pieces_of component) n) ∙ subst (λ (m : Name). IsTrue (begins m n)) is h)) so_far run

  pub joined_step : {old mid new : Story} {name : Name} → Through old mid (Follows (May old.now) (Thinner (is_cleared component component_stays record_stays))) → name ≡ joined_of component
      → Through mid new (Follows (May mid.now) (Thinner (bytes_eq name))) → Through old new (Follows (May old.now) (Thinner (is_cleared component component_stays record_stays)))
  joined_step {old} {mid} {new} {name} so_far is run = thin_runs (bytes_eq name) (is_cleared component component_stays record_stays) (λ n h. joined_goes component component_stays record_stays n (subst (λ (m : Name). IsTrue (bytes_eq m n)) is h)) so_far run

  pub self_step : {old mid new : Story} {name : Name} → Through old mid (Follows (May old.now) (Thinner (is_cleared component component_stays record_stays))) → name ≡ component
      → Through mid new (Follows (May mid.now) (Thinner (λ other. not component_stays && bytes_eq name other))) → Through old new (Follows (May old.now) (Thinner (is_cleared component component_stays record_stays)))
  self_step {old} {mid} {new} {name} so_far is run = thin_runs (λ other. not component_stays && bytes_eq name other) (is_cleared component component_stays record_stays) (λ n h. self_goes component component_stays record_stays n (subst (λ (m : Name). IsTrue (not component_stays && bytes_eq m n)) is h)) so_far run

  pub record_step : {old mid new : Story} {name : Name} → Through old mid (Follows (May old.now) (Thinner (is_cleared component component_stays record_stays))) → name ≡ record_of component
      → Through mid new (Follows (May mid.now) (Thinner (λ other. not record_stays && bytes_eq name other))) → Through old new (Follows (May old.now) (Thinner (is_cleared component component_stays record_stays)))
  record_step {old} {mid} {new} {name} so_far is run = thin_runs (λ other. not record_stays && bytes_eq name other) (is_cleared component component_stays record_stays) (λ n h. record_goes component component_stays record_stays n (subst (λ (m : Name). IsTrue (not record_stays && bytes_eq m n)) is h)) so_far run

-- five removals in turn
pub all_gone : (component : Name) (component_stays record_stays : Bool) {spare pieces joined self rec : Name} (a0 a1 a2 a3 a4 a5 : Names)
    → spare ≡ spare_of component → pieces ≡ pieces_of component → joined ≡ joined_of component → self ≡ component → rec ≡ record_of component
    → ((n : Name) → a1 n ≡ put a0 spare None n)
    → ((n : Name) → a2 n ≡ (if begins pieces n then None else a1 n))
    → ((n : Name) → a3 n ≡ put a2 joined None n)
    → ((n : Name) → a4 n ≡ (if not component_stays && bytes_eq self n then None else a3 n))
    → ((n : Name) → a5 n ≡ (if not record_stays && bytes_eq rec n then None else a4 n))
    → (n : Name) → a5 n ≡ (if is_cleared component component_stays record_stays n then None else a0 n)
all_gone component component_stays record_stays {spare} {pieces} {joined} {self} {rec} a0 a1 a2 a3 a4 a5 is_spare is_pieces is_joined is_self is_rec e1 e2 e3 e4 e5 n =
    e5 n ∙ ap (λ (m : Name). if not record_stays && bytes_eq m n then None else a4 n) is_rec
    ∙ ap (λ (o : Option File). if r component component_stays record_stays n then None else o) (e4 n ∙ ap (λ (m : Name). if not component_stays && bytes_eq m n then None else a3 n) is_self
    ∙ ap (λ (o : Option File). if c component component_stays record_stays n then None else o) (e3 n ∙ ap (λ (m : Name). if bytes_eq m n then None else a2 n) is_joined
    ∙ ap (λ (o : Option File). if p component component_stays record_stays n then None else o) (e2 n ∙ ap (λ (m : Name). if begins m n then None else a1 n) is_pieces ∙ ap (λ (b : Bool). if b then None else a1 n) (begins_one (pieces_of component) n)
    ∙ ap (λ (o : Option File). if f component component_stays record_stays n then None else o) (e1 n ∙ ap (λ (m : Name). if bytes_eq m n then None else a0 n) is_spare))))
    ∙ by (r component component_stays record_stays n) (c component component_stays record_stays n) (p component component_stays record_stays n) (f component component_stays record_stays n) (s component component_stays record_stays n)
  where
    by : (r c p f s : Bool) → (if r then None else (if c then None else (if p then None else (if f then None else (if s then None else a0 n))))) ≡ (if (r || (s || (p || f))) || c then None else a0 n)
    by true c p f s = refl
    by false true true true true = refl
    by false true true true false = refl
    by false true true false true = refl
    by false true true false false = refl
    by false true false true true = refl
    by false true false true false = refl
    by false true false false true = refl
    by false true false false false = refl
    by false false true true true = refl
    by false false true true false = refl
    by false false true false true = refl
    by false false true false false = refl
    by false false false true true = refl
    by false false false true false = refl
    by false false false false true = refl
    by false false false false false = refl
