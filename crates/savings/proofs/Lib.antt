pub mod RuleSavings
