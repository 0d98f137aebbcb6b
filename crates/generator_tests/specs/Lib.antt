pub mod Web
