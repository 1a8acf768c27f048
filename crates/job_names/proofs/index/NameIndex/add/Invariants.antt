use Rattle.std.proofs.Common.{◌≡◌, ℕ, List, Some, None, take, if◌then◌else◌}
use Rattle.std.specs.Prelude.{bytes_eq}
use Rattle.std.specs.Option.{option_or}
use Rattle.std.specs.List.{list_any}
use Rattle.plan_record.specs.Names.{begins, pieces_of}
use Rattle.job_names.specs.Index.{told}
use Rattle.job_names.proofs.index.NameIndex.add.Given as goal

abbrev pub invariant-loop-name : goal.invariant-loop-name
invariant-loop-name l = record {
  exact : (other : List ℕ) → told l.self.exact other ≡ option_or (told l.initial.self.exact other) (if list_any (bytes_eq other) (take l.name-index l.exact) then Some l.place else None);
  under : (component : List ℕ) → told l.self.under component
      ≡ option_or (told l.initial.self.under component) (if list_any (λ name. begins (pieces_of component) name) (take l.name-index l.exact) then Some l.place else None);
  components : l.self.components ≡ l.initial.self.components;
}

abbrev pub invariant-loop-component : goal.invariant-loop-component
invariant-loop-component l = record {
  exact : l.self.exact ≡ l.initial.self.exact;
  under : l.self.under ≡ l.initial.self.under;
  components : (other : List ℕ) → told l.self.components other
      ≡ option_or (told l.initial.self.components other) (if list_any (bytes_eq other) (take l.component-index l.components) then Some l.place else None);
}
