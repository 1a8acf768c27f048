use Rattle.text_pattern.proofs.pattern.Pattern.finder.Goals as goal

pub new-requires : goal.new-requires
new-requires c text bytes = rw (c.in_ok-matcher.ensures.pattern, ← c.self.view_is) (c.self.invariant text bytes)
