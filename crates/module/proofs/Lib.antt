pub mod KindLaws
pub mod LiteralLaws
pub mod CounterLaws
pub mod SyntaxKindLaws
