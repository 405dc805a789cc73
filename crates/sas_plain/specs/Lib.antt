pub mod PlainStep
